-- The table of lines: where the definition answers a line's calls as the line says, it leaves the work buffer as the line says.
use Prim.Native.Nat.{ℕ}
use mathlib.Core.{Path.{◌≡◌, refl, ap, sym, ◌∙◌}, List.{List, [], ◌∷◌, ◌++◌}, Option.{Option, none, some}}
use Rattle.molang.specs.{Words.{Refusal}, Read.{Answer, tree, messages}}
use Rattle.molang.specs.Parse.{Call, told, refusal, reading, answered, tree_after, messages_after, work_in, work_after}
use Rattle.molang.specs.Lines.{
  Marked,
  Line,
  Asked,
  Outcome,
  Compared,
  parse,
  write,
  unclear,
  parsed,
  marks_of,
  lines_of,
  asked_of,
  parsed_by,
  work_left,
  compared_calls,
  compared,
  all_compared,
  givens,
  wanteds,
  works,
  wanted_works,
  Answered,
  WorkAnswered,
}

-- What is told says what is left.
work-left : (c : Call) → work_left (parsed_by c) c.work ≡ work_after c
unfolding parsed_by answered work_after work_left told work_in
work-left c = by-refusal (refusal c) (reading c) (tree_after c) (messages_after c)
  where
    by-refusal : (r : Option Refusal) (a : Answer) (t m : List ℕ) → work_left (parsed (told r a) t m) c.work ≡ work_in r c.work
    by-refusal (some r) a t m = refl
    by-refusal none (tree k cs) t m = refl
    by-refusal none (messages ms) t m = refl

-- One that is answered as it says leaves what it says.
abbrev Follows : Compared → Type 0
Follows c = c.given ≡ c.wanted → c.work ≡ c.wanted_work

abbrev AllFollow : List Compared → Type 0
AllFollow [] = Unit {0}
AllFollow (c ∷ cs) = Follows c × AllFollow cs

calls-follow : (ms : List Marked) (cs : List Call) → AllFollow (compared_calls ms cs)
unfolding compared_calls
calls-follow ms [] = tt
calls-follow ms (c ∷ cs) = ((λ e. sym (work-left c) ∙ ap (λ (o : Outcome). work_left o c.work) e), calls-follow ms cs)

line-follows : (ms : List Marked) (a : Asked) → AllFollow (compared ms a)
unfolding compared
line-follows ms (parse cs) = calls-follow ms cs
line-follows ms (write c) = ((λ e. refl), tt)
line-follows ms unclear = ((λ e. refl), tt)

both-follow : (xs ys : List Compared) → AllFollow xs → AllFollow ys → AllFollow (xs ++ ys)
both-follow [] ys h g = g
both-follow (x ∷ xs) ys h g = (h.0, both-follow xs ys h.1 g)

lines-follow : (ls : List Line) → AllFollow (all_compared ls)
unfolding all_compared
lines-follow [] = tt
lines-follow (l ∷ ls) =
    both-follow (compared l.answers (asked_of l.asked)) (all_compared ls) (line-follows l.answers (asked_of l.asked))
    (lines-follow ls)

works-follow : (cs : List Compared) → AllFollow cs → givens cs ≡ wanteds cs → works cs ≡ wanted_works cs
unfolding givens wanteds works wanted_works
works-follow [] h e = refl
works-follow (c ∷ cs) h e =
    let first : c.given ≡ c.wanted = cc in
    let rest : givens cs ≡ wanteds cs = cc in
    let work = h.0 first in
    let later = works-follow cs h.1 rest in cc

pub work-answered : (table : List ℕ) → Answered table → WorkAnswered table
unfolding Answered WorkAnswered
work-answered table e = works-follow (all_compared (lines_of (marks_of table))) (lines-follow (lines_of (marks_of table))) e
