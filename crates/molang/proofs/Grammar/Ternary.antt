-- THE CONDITIONAL FROM 5: the ternary fold takes the list of a ranked expression in which everything tighter is folded to the one in which
-- its
-- conditionals are folded too: ladders, `?` without `:`, and conditionals between a `?` and its `:`.
use Prim.Native.Nat.{ℕ, suc, ◌<◌}
use mathlib.Core.{Path.{◌≡◌, refl, ap, sym, ◌∙◌}, Bool.{Bool, true, false, ◌||◌, ◌&&◌, not, true≢false, false≢true, and-false}}
use mathlib.Core.Option.{none}
use native.Mathlib.Omega.{arith}
use lib.Dec.{eqb, leb}
use borrow.Author.Tests.{eqb-true, eq-eqb, ne_eqb, leb-true, leb-false, le-leb, lt-leb}
use Rattle.molang.specs.Operator
use Rattle.molang.specs.{Forest.{Token, Forest, nil, node, turned_onto}, Message.{ok}, Level.{walk}}
use Rattle.molang.specs.Conditional.{is_token, starts_with, under, pair_else, scan, folded_from, dangling, undangled, conditional_step}
use Rattle.molang.specs.Conditional.{conditional_finish, conditional_level}
use Rattle.molang.proofs.{Forests.{Turns}, Conditional.{scanned, scan-once, undangled-calm}}
use Rattle.molang.proofs.Grammar.Walk.{Gathers, Carries, Passes, carry-both, carry-node, carry-token}
use Rattle.molang.proofs.Grammar.Ranked.{Exp, leaf, over, beside, between, choice, chosen, is_tight, is_closed, Ranked, amid, form}

-- A tree that is no `?` and no `:` token.
abbrev Plain : Token → Forest → Type 0
Plain k cs = (is_token Operator.conditional k cs ≡ false) × (is_token Operator.conditional_else k cs ≡ false)

-- ---- steps of the scan

-- A tree that is no token goes over to the right.
scan-over : (a : Token) (aa left right : Forest) → Plain a aa → scan (node a aa left) right ≡ scan left (node a aa right)
unfolding scan scanned
scan-over a aa nil right p = refl
scan-over a aa (node b bs left) right p = rw (scan-once a aa b bs left right, p.0, p.1) refl

unpaired : (r : Forest) → starts_with Operator.conditional_else r ≡ false → (f : Token) (fs : Forest) → pair_else (node f fs r) ≡ node f fs r
unfolding pair_else starts_with
unpaired nil n f fs = refl
unpaired (node k ks nil) n f fs = refl
unpaired (node k ks (node y ys s)) n f fs = rw (n, pair_else) refl

-- A `?` takes the tree before it and the first of the right part, where no `:` behind that belongs to a `?` before.
scan-question : (q : Token) (c : Token) (cs left : Forest) (x : Token) (xs r : Forest) → is_token Operator.conditional q nil ≡ true
    → (starts_with Operator.conditional left && starts_with Operator.conditional_else r) ≡ false
    → scan (node q nil (node c cs left)) (node x xs r) ≡ scan left (node q (node c cs (node x xs nil)) r)
unfolding scan scanned under
scan-question q c cs left x xs r e h = rw (scan-once q nil c cs left (node x xs r), e) (go (starts_with Operator.conditional left) refl h)
  where
    go : (z : Bool) → starts_with Operator.conditional left ≡ z → (z && starts_with Operator.conditional_else r) ≡ false
        → scanned true (is_token Operator.conditional_else q nil) z q nil c cs left (node x xs r)
        ≡ scan left (node q (node c cs (node x xs nil)) r)
    go true s n = ap (scan left) (unpaired r n q (node c cs (node x xs nil)))
    go false s n = refl

-- The same where one does: the `:` becomes its pair.
scan-paired : (q c : Token) (cs : Forest) (p : Token) (left : Forest) (x : Token) (xs : Forest) (k y : Token) (ys r : Forest)
    → is_token Operator.conditional q nil ≡ true → is_token Operator.conditional p nil ≡ true → is_token Operator.conditional_else k nil ≡ true
    → scan (node q nil (node c cs (node p nil left))) (node x xs (node k nil (node y ys r)))
    ≡ scan (node p nil left) (node k (node q (node c cs (node x xs nil)) (node y ys nil)) r)
unfolding scan scanned under pair_else starts_with
scan-paired q c cs p left x xs k y ys r e f g =
    rw (scan-once q nil c cs (node p nil left) (node x xs (node k nil (node y ys r))), e, f) (rw (g, pair_else) refl)

not-both : (k : Token) → is_token Operator.conditional_else k nil ≡ true → is_token Operator.conditional k nil ≡ false
unfolding is_token
not-both k h = let o = eqb-true k.op Operator.conditional_else h in ap (λ (n : ℕ). eqb n Operator.conditional) o

-- A `:` with a `?` two before it takes the tree between and the first of the right part.
scan-colon : (k b : Token) (bs : Forest) (q : Token) (left : Forest) (x : Token) (xs r : Forest)
    → is_token Operator.conditional_else k nil ≡ true
    → is_token Operator.conditional q nil ≡ true
    → scan (node k nil (node b bs (node q nil left))) (node x xs r) ≡ scan (node q nil left) (node k (node b bs (node x xs nil)) r)
unfolding scan scanned under starts_with
scan-colon k b bs q left x xs r e f = rw (scan-once k nil b bs (node q nil left) (node x xs r), not-both k e, e, f) refl

-- A `:` with another `:` two before it goes over.
scan-colon-over : (k b : Token) (bs : Forest) (m : Token) (left right : Forest) → is_token Operator.conditional_else k nil ≡ true
    → is_token Operator.conditional_else m nil ≡ true
    → scan (node k nil (node b bs (node m nil left))) right ≡ scan (node b bs (node m nil left)) (node k nil right)
unfolding scan scanned starts_with
scan-colon-over k b bs m left right e f = rw (scan-once k nil b bs (node m nil left) right, not-both k e, e, not-both m f) refl

-- ---- the beginning and the end of the fold

-- A list whose last tree is no token: the fold is the scan.
folds-by-scan : (a : Token) (aa d : Forest) → Plain a aa → folded_from (node a aa d) ≡ scan (node a aa d) nil
unfolding folded_from scan
folds-by-scan a aa nil p = refl
folds-by-scan a aa (node b bs nil) p = sym (scan-over a aa (node b bs nil) nil p)
folds-by-scan a aa (node b bs (node c cs left)) p = sym (scan-over a aa (node b bs (node c cs left)) nil p)

calm-tree : (k : Token) (cs r : Forest) → Plain k cs → dangling (node k cs r) ≡ dangling r
unfolding dangling
calm-tree k cs r p = rw (p.0, p.1, dangling) refl

abbrev anything : Forest → Bool
anything r = true

abbrev gathered_in : Forest → Forest
gathered_in d = d

abbrev Carried : (Forest → Forest) → (Forest → Forest) → Type 0
Carried = Carries conditional_level gathered_in anything

gathers : Gathers conditional_level gathered_in
unfolding walk conditional_level conditional_step conditional_finish folded_from undangled dangling
gathers = record { enters = λ d k c cs r. refl; resumes = λ d k kids. refl; begins = refl }

passes : (k : Token) → Passes conditional_level gathered_in anything k
unfolding conditional_level conditional_step
passes k d = refl

-- What may stand around a list: a `:` behind it belongs to no `?` in it or right before it.
abbrev Fits : Bool → Forest → Forest → Type 0
Fits closed left r = (starts_with Operator.conditional_else r && (starts_with Operator.conditional left || not closed)) ≡ false

-- The last tree is no token.
record Last (M : Forest → Forest) : Type 0 where
  tree : Forest → Token
  below : Forest → Forest
  before : Forest → Forest
  ends : (left : Forest) → turned_onto (M nil) left ≡ node (tree left) (below left) (before left)
  plain : (left : Forest) → Plain (tree left) (below left)

-- The list is one tree, before and after.
record Solid (M G : Forest → Forest) : Type 0 where
  label : Token
  inside : Forest
  was : (r : Forest) → M r ≡ node label inside r
  becomes : (r : Forest) → G r ≡ node label inside r
  plain : Plain label inside

record One (G : Forest → Forest) : Type 0 where
  label : Token
  inside : Forest
  becomes : (r : Forest) → G r ≡ node label inside r

-- The last token is a `:`, right before the last tree.
record EndsElse (M : Forest → Forest) : Type 0 where
  tree : Forest → Token
  below : Forest → Forest
  colon : Forest → Token
  before : Forest → Forest
  ends : (left : Forest) → turned_onto (M nil) left ≡ node (tree left) (below left) (node (colon left) nil (before left))
  is_colon : (left : Forest) → is_token Operator.conditional_else (colon left) nil ≡ true

-- Between a `?` and its `:` the list becomes one tree, and the `:` takes it.
abbrev TakenBetween : (Forest → Forest) → (Forest → Forest) → Type 0
TakenBetween M G =
    (q : Token) (left : Forest) (k y : Token) (ys r : Forest) → is_token Operator.conditional q nil ≡ true
    → is_token Operator.conditional_else k nil ≡ true
    → scan (turned_onto (M nil) (node q nil left)) (node k nil (node y ys r)) ≡ scan (node q nil left) (node k (G (node y ys nil)) r)

data Then (M G : Forest → Forest) : Type 0 where
  solid : Solid M G → Then M G
  paired : EndsElse M → TakenBetween M G → Then M G

-- What the pass makes of a list: F before it, M when its nested lists are done, G after it.
record Pairs (F M G : Forest → Forest) (is_solid is_one is_shut : Bool) : Type 0 where
  carried : Carried F M
  turns : Turns M
  last : Last M
  scans : (left r : Forest) → Fits is_shut left r → scan (turned_onto (M nil) left) r ≡ scan left (G r)
  calm : (r : Forest) → dangling (G r) ≡ dangling r
  leads : (r : Forest) → starts_with Operator.conditional_else (G r) ≡ false
  as_solid : is_solid ≡ true → Solid M G
  as_one : is_one ≡ true → One G
  as_then : is_one ≡ true → is_shut ≡ true → Then M G

none_left : dangling nil ≡ none
unfolding dangling
none_left = refl

-- A whole list.
whole-list : (F M G : Forest → Forest) → Carried F M → Last M → scan (turned_onto (M nil) nil) nil ≡ scan nil (G nil)
    → dangling (G nil) ≡ none
    → walk conditional_level nil (F nil) ≡ ok (G nil)
unfolding walk conditional_level conditional_finish scan
whole-list F M G c l s d =
    c nil nil refl
    ∙ ap undangled (ap folded_from (l.ends nil) ∙ folds-by-scan (l.tree nil) (l.below nil) (l.before nil) (l.plain nil)
    ∙ ap (λ (f : Forest). scan f nil) (sym (l.ends nil)) ∙ s)
    ∙ undangled-calm (G nil) d

whole : (F M G : Forest → Forest) (a b c : Bool) → Pairs F M G a b c → walk conditional_level nil (F nil) ≡ ok (G nil)
unfolding starts_with
whole F M G a b c x = whole-list F M G x.carried x.last (x.scans nil nil refl) (x.calm nil ∙ none_left)

-- A tree that is no token, whose nested list is done.
pairs-node : (k : Token) (x x' : Forest) (a b c : Bool) → Plain k x' → walk conditional_level nil x ≡ ok x'
    → Pairs (node k x) (node k x') (node k x') a b c
unfolding turned_onto starts_with
pairs-node k x x' a b c p e =
    let s : Solid (node k x') (node k x') = record { label = k; inside = x'; was = λ r. refl; becomes = λ r. refl; plain = p } in
    record {
      carried = carry-node conditional_level gathered_in anything gathers k x x' (passes k) e;
      turns = λ r d. refl;
      last = record { tree = λ l. k; below = λ l. x'; before = λ l. l; ends = λ l. refl; plain = λ l. p };
      scans = λ left r f. scan-over k x' left r p;
      calm = λ r. calm-tree k x' r p;
      leads = λ r. p.1;
      as_solid = λ h. s;
      as_one = λ h. record { label = k; inside = x'; becomes = λ r. refl };
      as_then = λ h g. solid s;
    }

-- ---- two lists after one another, with or without a token between them

abbrev join : (Forest → Forest) → (Forest → Forest) → Forest → Forest
join X Y r = X (Y r)

turns-join : (X Y : Forest → Forest) → Turns X → Turns Y → Turns (join X Y)
turns-join X Y x y r d = x (Y r) d ∙ y r _ ∙ ap (turned_onto r) (sym (x (Y nil) d))

turned-join : (X Y : Forest → Forest) → Turns X → (left : Forest)
    → turned_onto (X (Y nil)) left ≡ turned_onto (Y nil) (turned_onto (X nil) left)
turned-join X Y x left = x (Y nil) left

last-join : (X Y : Forest → Forest) → Turns X → Last Y → Last (join X Y)
last-join X Y x l =
    record {
      tree = λ left. l.tree (turned_onto (X nil) left);
      below = λ left. l.below (turned_onto (X nil) left);
      before = λ left. l.before (turned_onto (X nil) left);
      ends = λ left. turned-join X Y x left ∙ l.ends (turned_onto (X nil) left);
      plain = λ left. l.plain (turned_onto (X nil) left);
    }

-- A token before a list.
abbrev then : Token → (Forest → Forest) → Forest → Forest
then k Y r = node k nil (Y r)

turns_then : (k : Token) (Y : Forest → Forest) → Turns Y → Turns (then k Y)
unfolding turned_onto
turns_then k Y y r d = y r (node k nil d)

last_then : (k : Token) (Y : Forest → Forest) → Last Y → Last (then k Y)
unfolding turned_onto
last_then k Y l =
    record {
      tree = λ left. l.tree (node k nil left);
      below = λ left. l.below (node k nil left);
      before = λ left. l.before (node k nil left);
      ends = λ left. l.ends (node k nil left);
      plain = λ left. l.plain (node k nil left);
    }

carry-join : (X X' Y Y' : Forest → Forest) → Carried X X' → Carried Y Y' → Turns X' → Carried (join X Y) (join X' Y')
carry-join X X' Y Y' x y t = carry-both conditional_level gathered_in anything X X' Y Y' x y t (λ r f. refl)

carry-then : (k : Token) (X X' : Forest → Forest) → Carried X X' → Carried (then k X) (then k X')
carry-then k X X' x = carry-token conditional_level gathered_in anything k X X' (passes k) x

-- Nothing stands behind that is a `:`.
behind : (left r : Forest) → Fits false left r → starts_with Operator.conditional_else r ≡ false
behind left r f = go (starts_with Operator.conditional_else r) (starts_with Operator.conditional left) f
  where
    go : (a b : Bool) → (a && (b || true)) ≡ false → a ≡ false
    go false b h = refl
    go true true h = absurd (true≢false h)
    go true false h = absurd (true≢false h)

free-behind : (b : Bool) (left r : Forest) → starts_with Operator.conditional_else r ≡ false → Fits b left r
free-behind b left r h = rw h refl

module _ (F M G F' M' G' : Forest → Forest) (a b c a' b' c' : Bool) (x : Pairs F M G a b c) (y : Pairs F' M' G' a' b' c') where
  scans-beside : (left r : Forest) → Fits false left r → scan (turned_onto (M (M' nil)) left) r ≡ scan left (G (G' r))
  scans-beside left r f =
      ap (λ (d : Forest). scan d r) (turned-join M M' x.turns left)
      ∙ y.scans (turned_onto (M nil) left) r (free-behind c' (turned_onto (M nil) left) r (behind left r f))
      ∙ x.scans left (G' r) (free-behind c left (G' r) (y.leads r))

  -- Two lists side by side.
  pairs-beside : Pairs (join F F') (join M M') (join G G') false false false
  pairs-beside =
      record {
        carried = carry-join F M F' M' x.carried y.carried x.turns;
        turns = turns-join M M' x.turns y.turns;
        last = last-join M M' x.turns y.last;
        scans = scans-beside;
        calm = λ r. x.calm (G' r) ∙ y.calm r;
        leads = λ r. x.leads (G' r);
        as_solid = λ h. absurd (false≢true h);
        as_one = λ h. absurd (false≢true h);
        as_then = λ h g. absurd (false≢true h);
      }

  -- An operator between them that binds less: it stays where it is.
  scans-later : (k : Token) → Plain k nil → (left r : Forest) → Fits false left r
      → scan (turned_onto (M (node k nil (M' nil))) left) r ≡ scan left (G (node k nil (G' r)))
  unfolding turned_onto starts_with
  scans-later k p left r f =
      ap (λ (d : Forest). scan d r) (turned-join M (then k M') x.turns left)
      ∙ y.scans (node k nil (turned_onto (M nil) left)) r (free-behind c' (node k nil (turned_onto (M nil) left)) r (behind left r f))
      ∙ scan-over k nil (turned_onto (M nil) left) (G' r) p
      ∙ x.scans left (node k nil (G' r)) (free-behind c left (node k nil (G' r)) p.1)

  pairs-later : (k : Token) → Plain k nil → Pairs (join F (then k F')) (join M (then k M')) (join G (then k G')) false false false
  pairs-later k p =
      record {
        carried = carry-join F M (then k F') (then k M') x.carried (carry-then k F' M' y.carried) x.turns;
        turns = turns-join M (then k M') x.turns (turns_then k M' y.turns);
        last = last-join M (then k M') x.turns (last_then k M' y.last);
        scans = scans-later k p;
        calm = λ r. x.calm (node k nil (G' r)) ∙ calm-tree k nil (G' r) p ∙ y.calm r;
        leads = λ r. x.leads (node k nil (G' r));
        as_solid = λ h. absurd (false≢true h);
        as_one = λ h. absurd (false≢true h);
        as_then = λ h g. absurd (false≢true h);
      }

  -- An operator that binds more is a node already; the pass goes through its operands.
  pairs-tighter : (k : Token) (b'' : Bool) → Plain k (G (G' nil))
      → Pairs (node k (F (F' nil))) (node k (G (G' nil))) (node k (G (G' nil))) true true b''
  pairs-tighter k b'' p = pairs-node k (F (F' nil)) (G (G' nil)) true true b'' p
      (whole (join F F') (join M M') (join G G') false false false pairs-beside)

-- ---- conditionals

-- `c ? t`.
module _ (q : Token) (eq : is_token Operator.conditional q nil ≡ true) (Fc Mc Gc Ft Mt Gt : Forest → Forest) (a b c a' b' c' : Bool)
    (x : Pairs Fc Mc Gc a b c) (s : Solid Mc Gc) (y : Pairs Ft Mt Gt a' b' c') (o : One Gt) where
  scans-choice : (left r : Forest) → Fits false left r
      → scan (turned_onto (Mc (node q nil (Mt nil))) left) r ≡ scan left (node q (Gc (Gt nil)) r)
  unfolding turned_onto
  scans-choice left r f =
      let n = behind left r f in let l = s.label in let i = s.inside in
      ap (λ (d : Forest). scan d r) (turned-join Mc (then q Mt) x.turns left)
      ∙ ap (λ (d : Forest). scan (turned_onto (Mt nil) (node q nil (turned_onto d left))) r) (s.was nil)
      ∙ y.scans (node q nil (node l i left)) r (free-behind c' (node q nil (node l i left)) r n)
      ∙ ap (scan (node q nil (node l i left))) (o.becomes r)
      ∙ scan-question q l i left o.label o.inside r eq
      (ap (λ (b : Bool). starts_with Operator.conditional left && b) n ∙ and-false (starts_with Operator.conditional left))
      ∙ ap (λ (t : Forest). scan left (node q t r)) (sym (s.becomes (Gt nil) ∙ ap (node l i) (o.becomes nil)))

  pairs-choice : Pairs (join Fc (then q Ft)) (join Mc (then q Mt)) (node q (Gc (Gt nil))) false true false
  pairs-choice =
      record {
        carried = carry-join Fc Mc (then q Ft) (then q Mt) x.carried (carry-then q Ft Mt y.carried) x.turns;
        turns = turns-join Mc (then q Mt) x.turns (turns_then q Mt y.turns);
        last = last-join Mc (then q Mt) x.turns (last_then q Mt y.last);
        scans = scans-choice;
        calm = λ r. ap (λ (f : Forest). dangling (node q f r)) (s.becomes (Gt nil))
            ∙ calm-tree q (node s.label s.inside (Gt nil)) r (unfold is_token in (refl, refl));
        leads = λ r. unfold starts_with is_token in ap (λ (f : Forest). is_token Operator.conditional_else q f) (s.becomes (Gt nil));
        as_solid = λ h. absurd (false≢true h);
        as_one = λ h. record { label = q; inside = Gc (Gt nil); becomes = λ r. refl };
        as_then = λ h g. absurd (false≢true g);
      }

-- The outer list's place fits for what stands last in it, and for its own `?`.
fits_last : (b : Bool) (left after r : Forest) → starts_with Operator.conditional after ≡ false → Fits b left r → Fits b after r
fits_last b left after r n f = rw n (go (starts_with Operator.conditional_else r) (starts_with Operator.conditional left) b f)
  where
    go : (x y z : Bool) → (x && (y || not z)) ≡ false → (x && not z) ≡ false
    go false y z h = refl
    go true true z h = absurd (true≢false h)
    go true false z h = h

fits-question : (b : Bool) (left r : Forest) → Fits b left r
    → (starts_with Operator.conditional left && starts_with Operator.conditional_else r) ≡ false
fits-question b left r f = go (starts_with Operator.conditional_else r) (starts_with Operator.conditional left) b f
  where
    go : (x y z : Bool) → (x && (y || not z)) ≡ false → (y && x) ≡ false
    go x false z h = refl
    go false true z h = refl
    go true true z h = absurd (true≢false h)

-- `c ? t : e`.
module _ (q k : Token) (eq : is_token Operator.conditional q nil ≡ true) (ek : is_token Operator.conditional_else k nil ≡ true)
    (Fc Mc Gc Ft Mt Gt Fe Me Ge : Forest → Forest) (a b c a' b' c' a'' b'' c'' : Bool)
    (x : Pairs Fc Mc Gc a b c) (s : Solid Mc Gc) (y : Pairs Ft Mt Gt a' b' c') (th : Then Mt Gt) (ot : One Gt)
    (z : Pairs Fe Me Ge a'' b'' c'') (o : One Ge) where
  abbrev M : Forest → Forest
  M = join Mc (then q (join Mt (then k Me)))

  abbrev after_question : Forest → Forest
  after_question left = node q nil (node s.label s.inside left)

  pair : Forest
  pair = Gt (node o.label o.inside nil)

  turned : (left : Forest) → turned_onto (M nil) left ≡ turned_onto (Me nil) (node k nil (turned_onto (Mt nil) (after_question left)))
  unfolding turned_onto
  turned left =
      turned-join Mc (then q (join Mt (then k Me))) x.turns left
      ∙ turned-join Mt (then k Me) y.turns (node q nil (turned_onto (Mc nil) left))
      ∙ ap (λ (d : Forest). turned_onto (Me nil) (node k nil (turned_onto (Mt nil) (node q nil (turned_onto d left))))) (s.was nil)

  -- From the `:` on: it takes what stands between.
  from-colon : (th : Then Mt Gt) (left r : Forest)
      → scan (node k nil (turned_onto (Mt nil) (after_question left))) (node o.label o.inside r)
      ≡ scan (after_question left) (node k pair r)
  unfolding turned_onto pair
  from-colon (solid t) left r =
      ap (λ (d : Forest). scan (node k nil (turned_onto d (after_question left))) (node o.label o.inside r)) (t.was nil)
      ∙ scan-colon k t.label t.inside q (node s.label s.inside left) o.label o.inside r ek eq
      ∙ ap (λ (f : Forest). scan (after_question left) (node k f r)) (sym (t.becomes (node o.label o.inside nil)))
  from-colon (paired e t) left r =
      ap (λ (d : Forest). scan (node k nil d) (node o.label o.inside r)) (e.ends (after_question left))
      ∙ scan-colon-over k (e.tree (after_question left)) (e.below (after_question left)) (e.colon (after_question left))
      (e.before (after_question left))
      (node o.label o.inside r) ek (e.is_colon (after_question left))
      ∙ ap (λ (d : Forest). scan d (node k nil (node o.label o.inside r))) (sym (e.ends (after_question left)))
      ∙ t q (node s.label s.inside left) k o.label o.inside r eq ek

  abbrev before_else : Forest → Forest
  before_else left = node k nil (turned_onto (Mt nil) (after_question left))

  -- Up to the `?`.
  to-question : (left r : Forest) → Fits c'' (before_else left) r
      → scan (turned_onto (M nil) left) r ≡ scan (after_question left) (node k pair r)
  to-question left r f =
      ap (λ (d : Forest). scan d r) (turned left)
      ∙ z.scans (before_else left) r f
      ∙ ap (scan (before_else left)) (o.becomes r)
      ∙ from-colon th left r

  abbrev inner : Forest
  inner = node k (Gt (Ge nil)) nil

  same-pair : node s.label s.inside (node k pair nil) ≡ Gc inner
  unfolding pair
  same-pair = sym (s.becomes inner ∙ ap (λ (f : Forest). node s.label s.inside (node k (Gt f) nil)) (o.becomes nil))

  scans-chosen : (left r : Forest) → Fits c'' left r → scan (turned_onto (M nil) left) r ≡ scan left (node q (Gc inner) r)
  unfolding starts_with
  scans-chosen left r f =
      to-question left r (fits_last c'' left (before_else left) r (not-both k ek) f)
      ∙ scan-question q s.label s.inside left k pair r eq (fits-question c'' left r f)
      ∙ ap (λ (f : Forest). scan left (node q f r)) same-pair

  between-chosen : c'' ≡ true → TakenBetween M (node q (Gc inner))
  unfolding starts_with
  between-chosen h p left m v vs r ep em =
      to-question (node p nil left) (node m nil (node v vs r)) (rw (not-both k ek, h) (and-false (is_token Operator.conditional_else m nil)))
      ∙ scan-paired q s.label s.inside p left k pair m v vs r eq ep em
      ∙ ap (λ (f : Forest). scan (node p nil left) (node m (node q f (node v vs nil)) r)) same-pair

  -- After the `:` stands a tree, or a conditional that ends with one after its own `:`.
  ends-chosen : Then Me Ge → EndsElse M
  unfolding turned_onto
  ends-chosen (solid t) = record {
    tree = λ left. t.label;
    below = λ left. t.inside;
    colon = λ left. k;
    before = λ left. turned_onto (Mt nil) (after_question left);
    ends = λ left. turned left ∙ ap (λ (d : Forest). turned_onto d (before_else left)) (t.was nil);
    is_colon = λ left. ek;
  }
  ends-chosen (paired e t) = record {
    tree = λ left. e.tree (before_else left);
    below = λ left. e.below (before_else left);
    colon = λ left. e.colon (before_else left);
    before = λ left. e.before (before_else left);
    ends = λ left. turned left ∙ e.ends (before_else left);
    is_colon = λ left. e.is_colon (before_else left);
  }

  filled-question : (r : Forest) → Plain q (Gc inner)
  unfolding is_token
  filled-question r = rw (s.becomes inner) (refl, refl)

  pairs-chosen : (c'' ≡ true → Then Me Ge)
      → Pairs (join Fc (then q (join Ft (then k Fe)))) M (node q (Gc inner)) false true c''
  unfolding starts_with
  pairs-chosen te =
      let carry-e = carry-join Ft Mt (then k Fe) (then k Me) y.carried (carry-then k Fe Me z.carried) y.turns in
      let turns-e = turns-join Mt (then k Me) y.turns (turns_then k Me z.turns) in
      let last-e = last-join Mt (then k Me) y.turns (last_then k Me z.last) in
      record {
        carried = carry-join Fc Mc (then q (join Ft (then k Fe))) (then q (join Mt (then k Me))) x.carried
            (carry-then q (join Ft (then k Fe)) (join Mt (then k Me)) carry-e) x.turns;
        turns = turns-join Mc (then q (join Mt (then k Me))) x.turns (turns_then q (join Mt (then k Me)) turns-e);
        last = last-join Mc (then q (join Mt (then k Me))) x.turns (last_then q (join Mt (then k Me)) last-e);
        scans = scans-chosen;
        calm = λ r. calm-tree q (Gc inner) r (filled-question r);
        leads = λ r. (filled-question r).1;
        as_solid = λ h. absurd (false≢true h);
        as_one = λ h. record { label = q; inside = Gc inner; becomes = λ r. refl };
        as_then = λ h g. paired (ends-chosen (te g)) (between-chosen g);
      }

-- ---- every ranked expression

-- The rank of the conditional.
pub record Pairing (rank : ℕ → ℕ) (p : ℕ) : Type 0 where
  pub positive : 0 < p
  pub question : rank Operator.conditional ≡ p
  pub colon : rank Operator.conditional_else ≡ p

record Done (F G : Forest → Forest) (is_solid is_one is_shut : Bool) : Type 0 where
  mid : Forest → Forest
  pairs : Pairs F mid G is_solid is_one is_shut

module _ (rank : ℕ → ℕ) (p : ℕ) (w : Pairing rank p) where
  -- Folded before the pass, and after it.
  abbrev pub σ : ℕ → Bool
  σ n = leb (suc p) (rank n)

  abbrev pub σ' : ℕ → Bool
  σ' n = leb p (rank n)

  abbrev Ready : Exp → Type 0
  Ready e = Done (form σ e) (form σ' e) (is_tight rank (suc p) e) (is_tight rank p e) (is_closed rank p e)

  -- What has another rank is no conditional.
  plain : (k : Token) (cs : Forest) → (rank k.op ≡ p → ⊥) → Plain k cs
  unfolding is_token
  plain k nil n = (
    ne_eqb k.op Operator.conditional (λ e. n (ap rank e ∙ w.question)),
    ne_eqb k.op Operator.conditional_else
        (λ e. n (ap rank e ∙ w.colon)),
  )
  plain k (node c cs r) n = (refl, refl)

  unranked : (k : Token) → rank k.op ≡ 0 → rank k.op ≡ p → ⊥
  unranked k z e = let l = w.positive in omega (arith, l, z, e)

  ready-leaf : (k : Token) → rank k.op ≡ 0 → Ready (leaf k)
  unfolding form is_tight is_closed
  ready-leaf k z = record { mid = node k nil; pairs = pairs-node k nil nil true true true (plain k nil (unranked k z)) gathers.begins }

  ready-over : (k : Token) (x : Exp) → rank k.op ≡ 0 → Ready x → Ready (over k x)
  unfolding form is_tight is_closed
  ready-over k x z i =
      record {
        mid = node k (form σ' x nil);
        pairs = pairs-node k (form σ x nil) (form σ' x nil) true true true (plain k (form σ' x nil) (unranked k z))
            (whole (form σ x) i.mid (form σ' x) (is_tight rank (suc p) x) (is_tight rank p x) (is_closed rank p x) i.pairs);
      }

  ready-beside : (x y : Exp) → Ready x → Ready y → Ready (beside x y)
  unfolding form is_tight is_closed
  ready-beside x y i n =
      record {
        mid = join i.mid n.mid;
        pairs = pairs-beside (form σ x) i.mid (form σ' x) (form σ y) n.mid (form σ' y) (is_tight rank (suc p) x) (is_tight rank p x)
            (is_closed rank p x)
            (is_tight rank (suc p) y) (is_tight rank p y) (is_closed rank p y) i.pairs n.pairs;
      }

  module _ (F M G F' M' G' : Forest → Forest) (a b c a' b' c' : Bool) (x : Pairs F M G a b c) (y : Pairs F' M' G' a' b' c') where
    done-amid : (k : Token) → (rank k.op ≡ p → ⊥) → (d e : Bool) → leb (suc p) (rank k.op) ≡ d → leb p (rank k.op) ≡ e
        → Done (amid d k F F') (amid e k G G') d e d
    unfolding amid
    done-amid k n true true h g = record {
      mid = node k (G (G' nil));
      pairs = pairs-tighter F M G F' M' G' a b c a' b' c' x y k true (plain k (G (G' nil)) n);
    }
    done-amid k n false false h g = record {
      mid = join M (then k M');
      pairs = pairs-later F M G F' M' G' a b c a' b' c' x y k (plain k nil n);
    }
    done-amid k n true false h g = absurd (let l = leb-true (suc p) (rank k.op) h in let m = leb-false p (rank k.op) g in
        omega (arith, l, m))
    done-amid k n false true h g =
        absurd (n (let l = leb-false (suc p) (rank k.op) h in let m = leb-true p (rank k.op) g in omega (arith, l, m)))

  ready-between : (k : Token) (x y : Exp) → (rank k.op ≡ p → ⊥) → Ready x → Ready y → Ready (between k x y)
  unfolding form is_tight is_closed
  ready-between k x y q i n =
      done-amid (form σ x) i.mid (form σ' x) (form σ y) n.mid (form σ' y) (is_tight rank (suc p) x) (is_tight rank p x)
      (is_closed rank p x)
      (is_tight rank (suc p) y) (is_tight rank p y) (is_closed rank p y) i.pairs n.pairs k q (leb (suc p) (rank k.op))
      (leb p (rank k.op)) refl refl

  flat-now : (q : Token) → rank q.op ≡ p → leb (suc p) (rank q.op) ≡ false
  flat-now q e = lt-leb (suc p) (rank q.op) (omega (arith, e))

  folded_then : (q : Token) → rank q.op ≡ p → leb p (rank q.op) ≡ true
  folded_then q e = le-leb p (rank q.op) (omega (arith, e))

  token-of : (o : ℕ) (q : Token) → q.op ≡ o → is_token o q nil ≡ true
  unfolding is_token
  token-of o q e = eq-eqb q.op o e

  ready-choice : (q : Token) (c t : Exp) → q.op ≡ Operator.conditional → rank q.op ≡ p → is_tight rank (suc p) c ≡ true
      → is_tight rank p t ≡ true
      → Ready c → Ready t → Ready (choice q c t)
  unfolding form is_tight is_closed
  ready-choice q c t o e l m i n = go (leb (suc p) (rank q.op)) (leb p (rank q.op)) (flat-now q e) (folded_then q e)
    where
      go : (d f : Bool) → d ≡ false → f ≡ true → Done (amid d q (form σ c) (form σ t)) (amid f q (form σ' c) (form σ' t)) d f false
      go false true h g = unfold amid in record {
        mid = join i.mid (then q n.mid);
        pairs = pairs-choice q (token-of Operator.conditional q o) (form σ c) i.mid (form σ' c) (form σ t) n.mid (form σ' t)
            (is_tight rank (suc p) c) (is_tight rank p c) (is_closed rank p c) (is_tight rank (suc p) t) (is_tight rank p t) (is_closed rank p t)
            i.pairs (i.pairs.as_solid l) n.pairs (n.pairs.as_one m);
      }
      go true f h g = absurd (true≢false h)
      go false false h g = absurd (false≢true g)

  ready-chosen : (q k : Token) (c t e : Exp) → q.op ≡ Operator.conditional → rank q.op ≡ p → k.op ≡ Operator.conditional_else
      → rank k.op ≡ p
      → is_tight rank (suc p) c ≡ true → is_tight rank p t ≡ true → is_closed rank p t ≡ true → is_tight rank p e ≡ true → Ready c → Ready t
      → Ready e
      → Ready (chosen q k c t e)
  unfolding form is_tight is_closed
  ready-chosen q k c t e o1 r1 o2 r2 l m s u i n v =
      go (leb (suc p) (rank q.op)) (leb p (rank q.op)) (leb (suc p) (rank k.op)) (leb p (rank k.op))
      (flat-now q r1) (folded_then q r1) (flat-now k r2) (folded_then k r2)
    where
      go : (d f d' f' : Bool) → d ≡ false → f ≡ true → d' ≡ false → f' ≡ true
          → Done (amid d q (form σ c) (amid d' k (form σ t) (form σ e))) (amid f q (form σ' c) (amid f' k (form σ' t) (form σ' e))) d f
          (is_closed rank p e)
      go false true false true h g h' g' = unfold amid in record {
        mid = join i.mid (then q (join n.mid (then k v.mid)));
        pairs = pairs-chosen q k (token-of Operator.conditional q o1) (token-of Operator.conditional_else k o2)
            (form σ c) i.mid (form σ' c) (form σ t) n.mid (form σ' t) (form σ e) v.mid (form σ' e)
            (is_tight rank (suc p) c) (is_tight rank p c) (is_closed rank p c) (is_tight rank (suc p) t) (is_tight rank p t) (is_closed rank p t)
            (is_tight rank (suc p) e) (is_tight rank p e) (is_closed rank p e)
            i.pairs (i.pairs.as_solid l) n.pairs (n.pairs.as_then m s) (n.pairs.as_one m) v.pairs (v.pairs.as_one u)
            (v.pairs.as_then u);
      }
      go true f d' f' h g h' g' = absurd (true≢false h)
      go false false d' f' h g h' g' = absurd (false≢true g)
      go false true true f' h g h' g' = absurd (true≢false h')
      go false true false false h g h' g' = absurd (false≢true g')

  ready : (e : Exp) → Ranked rank p e → Ready e
  ready (leaf k) g = ready-leaf k g
  ready (over k x) g = ready-over k x g.0 (ready x g.1)
  ready (beside x y) g = ready-beside x y (ready x g.0) (ready y g.1)
  ready (between k x y) g = ready-between k x y g.1 (ready x g.4) (ready y g.5)
  ready (choice q c t) g = ready-choice q c t g.0 g.1 g.2 g.3 (ready c g.4) (ready t g.5)
  ready (chosen q k c t e) g =
      ready-chosen q k c t e g.0 g.1 g.2 g.3 g.4 g.5 g.6 g.7 (ready c g.8) (ready t g.9) (ready e g.10)

  -- The ternary fold takes the list of a ranked expression to the one in which its conditionals are folded too.
  pub ternary-level : (e : Exp) → Ranked rank p e → walk conditional_level nil (form σ e nil) ≡ ok (form σ' e nil)
  ternary-level e g =
      let r = ready e g in
      whole (form σ e) r.mid (form σ' e) (is_tight rank (suc p) e) (is_tight rank p e) (is_closed rank p e) r.pairs
