-- What holds of the forms of a shape: turned round they are turned part by part.
use mathlib.Core.{Path.{◌≡◌, refl, ap, sym, ◌∙◌}, Bool.{Bool, true, false}, List.{List, [], ◌∷◌}}
use Rattle.molang.specs.Forest.{Token, Forest, nil, node, turned_onto}
use Rattle.molang.proofs.Forests.{Turns}
use Rattle.molang.proofs.Grammar.Shape.{Shape, token, beside, chain, section, query, math_call, math_empty, index, pointer, script}
use Rattle.molang.proofs.Grammar.Shape.{statement, last, blank, Stage, row, grown, chained, within, ahead, indexed, amid, listed}
use Rattle.molang.proofs.Grammar.Shape.{ended, skipped, top_of, first_of, form}
unfoldable pub use Rattle.molang.proofs.Grammar.Shape.{inside_of}

-- Accessors over a tree are one tree.
pub grown-one : (k : Token) (cs : Forest) (ms : List Token) (r : Forest) → grown k cs ms r ≡ node (top_of k ms) (inside_of k cs ms) r
unfolding grown top_of inside_of
grown-one k cs [] r = refl
grown-one k cs (a ∷ ms) r = grown-one a (node k cs nil) ms r

pub turned-nothing : Turns (λ r. r)
unfolding turned_onto
turned-nothing r d = refl

turned-row : (ks : List Token) → Turns (row ks)
unfolding row turned_onto
turned-row [] r d = refl
turned-row (k ∷ ks) r d = turned-row ks r (node k nil d)

turned-chained : (b : Bool) (k : Token) (ms : List Token) → Turns (chained b k ms)
unfolding chained turned_onto
turned-chained true k ms r d = ap (λ (f : Forest). turned_onto f d) (grown-one k nil ms r)
    ∙ ap (λ (f : Forest). turned_onto r (turned_onto f d)) (sym (grown-one k nil ms nil))
turned-chained false k ms r d = turned-row ms r (node k nil d)

turned-within : (b : Bool) (o c : Token) (X : Forest → Forest) → Turns X → Turns (within b o c X)
unfolding within turned_onto
turned-within true o c X x r d = refl
turned-within false o c X x r d = x (node c nil r) (node o nil d) ∙ ap (turned_onto r) (sym (x (node c nil nil) (node o nil d)))

turned-ahead : (b : Bool) (k : Token) (X : Forest → Forest) → Turns X → Turns (ahead b k X)
unfolding ahead turned_onto
turned-ahead true k X x r d = refl
turned-ahead false k X x r d = x r (node k nil d)

turned-indexed : (b s : Bool) (k o c : Token) (X : Forest → Forest) → Turns X → Turns (indexed b s k o c X)
unfolding indexed turned_onto
turned-indexed true s k o c X x r d = refl
turned-indexed false s k o c X x r d = turned-within s o c X x r (node k nil d)

turned-amid : (b : Bool) (k : Token) (X Y : Forest → Forest) → Turns X → Turns Y → Turns (amid b k X Y)
unfolding amid turned_onto
turned-amid true k X Y x y r d = refl
turned-amid false k X Y x y r d = x (node k nil (Y r)) d ∙ y r _ ∙ ap (turned_onto r) (sym (x (node k nil (Y nil)) d))

turned-listed : (b : Bool) (q : Token) (X : Forest → Forest) → Turns X → Turns (listed b q X)
unfolding listed turned_onto
turned-listed true q X x r d = refl
turned-listed false q X x r d = x r d

turned-ended : (b : Bool) (f e : Token) (X : Forest → Forest) → Turns X → Turns (ended b f e X)
unfolding ended turned_onto
turned-ended true f e X x r d = refl
turned-ended false f e X x r d = x (node e nil r) d ∙ ap (turned_onto r) (sym (x (node e nil nil) d))

turned-skipped : (b : Bool) (e : Token) → Turns (skipped b e)
unfolding skipped turned_onto
turned-skipped true e r d = refl
turned-skipped false e r d = refl

pub turned-form : (s : Stage) (x : Shape) → Turns (form s x)
unfolding form turned_onto
turned-form s (token k) r d = refl
turned-form s (beside x y) r d = turned-form s x (form s y r) d ∙ turned-form s y r _
    ∙ ap (turned_onto r) (sym (turned-form s x (form s y nil) d))
turned-form s (chain b ms) r d = turned-chained s.members b ms r d
turned-form s (section o c x) r d = turned-within s.sections o c (form s x) (turned-form s x) r d
turned-form s (query k o c x) r d =
    turned-ahead s.calls k (within s.sections o c (form s x)) (turned-within s.sections o c (form s x) (turned-form s x)) r d
turned-form s (math_call k o c x) r d =
    turned-ahead s.maths k (within s.sections o c (form s x)) (turned-within s.sections o c (form s x) (turned-form s x)) r d
turned-form s (math_empty k o c) r d =
    turned-ahead s.maths k (within s.sections o c (λ r. r)) (turned-within s.sections o c (λ r. r) (λ r d. refl)) r d
turned-form s (index k o c x) r d = turned-indexed s.arrays s.sections k o c (form s x) (turned-form s x) r d
turned-form s (pointer k x y) r d = turned-amid s.pointers k (form s x) (form s y) (turned-form s x) (turned-form s y) r d
turned-form s (script q x) r d = turned-listed s.statements q (form s x) (turned-form s x) r d
turned-form s (statement e x) r d = turned-ended s.statements (first_of x) e (form s x) (turned-form s x) r d
turned-form s (last x) r d = turned-listed s.statements (first_of x) (form s x) (turned-form s x) r d
turned-form s (blank e) r d = turned-skipped s.statements e r d
