-- NO MASKS. Document 01: "The definition is written without class masks and without the frame stack; both are proved to change nothing."
-- A reader with class masks does not run a pass, and does not enter a list, where no leaf has a class of the pass. `no-masks` says that the
-- pass would have left that list as it is. The law of each level stands in the file of its name; those of the flat passes are here.
use Prim.Native.Nat.{ℕ}
use mathlib.Core.{Path.{◌≡◌, refl}, Bool.{true, false, false≢true}, List.{[], ◌∷◌}, Option.{none}}
use lib.Dec.{eqb}
use Rattle.molang.specs.Operator
use Rattle.molang.specs.{Operator.{any, is_one_of, closing_of, is_closer}, Forest.{Token, Forest, nil, node, turned_onto, in_order}}
use Rattle.molang.specs.{Message.{ok}, Sections.{members, outside, placed, position, going, closing, bracket, closed, sections}}
use Rattle.molang.specs.Calls.{query_or_loop, math}
use Rattle.molang.specs.Order.{Pass, last_token, member_accessors, sectioning, call_pass, statements, arrays, pointer, math_calls}
use Rattle.molang.specs.Order.{unary_minus_and_not, addition, conditional, returns, binary, apply}
use Rattle.molang.specs.Free.{free, tokens_only, flat, operators_of, works_on}
use Rattle.molang.proofs.{Trees.{either, both, free-leaf, free-tree}, Booleans.{or-neither}, Calls.{call-free}, Arrays.{array-free}}
use Rattle.molang.proofs.{Statements.{statement-free}, Unary.{unary_pass-free}, Return.{return-free}, Binary.{binary-free}}
use Rattle.molang.proofs.{Conditional.{conditional-free}, Sections.{member-unopened}}

members-free : (d f : Forest) → tokens_only f ≡ true → free (operators_of member_accessors) f ≡ true → members d f ≡ ok (turned_onto d f)
unfolding members tokens_only operators_of is_one_of any turned_onto in_order
members-free d nil t h = refl
members-free d (node k nil rest) t h =
    let e = free-leaf (operators_of member_accessors) k rest h in
    rw ((or-neither (eqb k.op Operator.member_accessor) false e.0).0, members) (members-free (node k nil d) rest t e.1)
members-free d (node k (node c cs r) rest) t h = absurd (false≢true t)

-- Outside every section, what opens none is placed: a closer too.
unopened : (d : Forest) (k : Token) (cs : Forest) (i : ℕ) → closing_of k.op ≡ none
    → bracket k cs i (outside d) ≡ going (outside (node k cs d))
unfolding bracket closing placed
unopened d k cs i e = rw (e, bracket) (either (λ w. w ≡ going (outside (node k cs d))) (is_closer k.op) _ _ refl refl)

no-opener : (n : ℕ) → operators_of sectioning n ≡ false → closing_of n ≡ none
unfolding operators_of is_one_of any closing_of
no-opener n h =
    let brace = or-neither (eqb n Operator.left_brace) _ h in
    let bracket = or-neither (eqb n Operator.left_bracket) _ brace.1 in
    let parenthesis = or-neither (eqb n Operator.left_parenthesis) false bracket.1 in
    rw (brace.0, closing_of) (rw bracket.0 (rw parenthesis.0 refl))

sections-free : (i : ℕ) (d f : Forest) → flat f ≡ true → free (operators_of sectioning) f ≡ true
    → sections i (outside d) f ≡ ok (turned_onto d f)
unfolding sections closed position flat turned_onto in_order
sections-free i d nil t h = refl
sections-free i d (node k nil rest) t h =
    let e = free-leaf (operators_of sectioning) k rest h in
    rw (unopened d k nil (position i (outside d)) (no-opener k.op e.0), sections) (sections-free (position i (outside d)) (node k nil d) rest t e.1)
sections-free i d (node k (node c cs r) rest) t h =
    let b = both (eqb k.op Operator.member_accessor) (flat rest) t in
    rw (unopened d k (node c cs r) (position i (outside d)) (member-unopened k b.0), sections)
    (sections-free (position i (outside d)) (node k (node c cs r) d) rest b.1 (free-tree (operators_of sectioning) k c cs r rest h).1)

-- THE THEOREM: a pass leaves a list that it works on as it is where none of its operators stands as a leaf, at any depth.
pub no-masks : (source_length : ℕ) (p : Pass) (f : Forest) → works_on p f ≡ true → free (operators_of p) f ≡ true
    → apply source_length p f ≡ ok f
unfolding apply works_on operators_of turned_onto
no-masks l last_token f w h = absurd (false≢true w)
no-masks l member_accessors f w h = members-free nil f w h
no-masks l sectioning f w h = sections-free 0 nil f w h
no-masks l call_pass f w h = call-free query_or_loop f h
no-masks l statements f w h = statement-free f h
no-masks l arrays f w h = array-free f h
no-masks l pointer f w h = binary-free (Operator.pointer ∷ []) f h
no-masks l math_calls f w h = call-free math f h
no-masks l unary_minus_and_not f w h = unary_pass-free f h
no-masks l addition f w h = binary-free (Operator.add ∷ []) f h
no-masks l conditional f w h = conditional-free f h
no-masks l returns f w h = return-free f h
no-masks l (binary ops) f w h = binary-free ops f h
