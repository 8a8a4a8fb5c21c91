-- Calls of the exports of an open list one after another, as the editor makes them: each gets the held numbers and the slice for the words
-- as the last one left them, and nobody else writes either (document 02, card 11). No function is bound by this: it is what is shown of the
-- exports' promises.
use Rattle.std.specs.Prelude.{ℕ, ◌<◌, ◌≡◌, List, [], ◌∷◌, ℤ}
use Rattle.held.specs.declared.Held.{Held}
use Rattle.held.specs.Held.{State, Edit, Lent, Act, asks, commits, adopts, held_list, lent_call, opened, after, edits_made, version_set}
use Rattle.held.specs.Histories.{nothing, SameLent, AsAsked}
use Rattle.held.specs.Answers.{state}
use Rattle.held.specs.Runs.{left}
use Rattle.sorbrudder.specs.Numbers.{kind_in, told_back, HasParsedTo}
use Rattle.sorbrudder.specs.Holding.{HasAskedTo, HasCommittedTo, HasAdoptedTo}

-- THE CALLS OF A SEQUENCE, from a state to a state, whatever each was answered.
pub data Called : State → List Act → State → Type 0 where
  ends : (s : State) → Called s [] s
  then_asks : (s : State) (e : Edit) (l : Lent) (number : ℕ) (tree' messages' work' : List ℕ) → HasAskedTo s e l number tree' messages' work'
      → {later : List Act} {last : State} → Called s later last
      → Called s (asks e l ∷ later) last
  then_commits : (s : State) (seen : ℕ) (e : Edit) (l : Lent) (number : ℕ) (next : State) (tree' messages' work' : List ℕ)
      → HasCommittedTo s seen e l number next tree' messages' work'
      → {later : List Act} {last : State} → Called next later last
      → Called s (commits seen e l ∷ later) last
  then_adopts : (s : State) (version : ℤ) (number : ℕ) (held : Held) → HasAdoptedTo s.held version number held
      → {later : List Act} {last : State} → Called (state held s.slice) later last
      → Called s (adopts version ∷ later) last

-- FROM AN OPENING ON: after any sequence of calls the state is the definition's, and the words are the opened ones with the accepted edits
-- made in order. An ask that changes nothing is answered as the parse entry's export answers them, at the version last set. And whatever
-- calls come between an ask and a commit of the same edit that names the edit count seen when asking, a commit that is no refusal answers
-- as asked, over buffers of the same lengths and the same limit.
pub record FromOpening (words list : List ℕ) (version : ℤ) (acts : List Act) (s : State) : Type 0 where
  pub state_is : s ≡ after (opened words list version) acts
  pub words_are : held_list s ≡ edits_made (opened words list version) acts list
  pub afresh : {lent : Lent} {number : ℕ} {tree' messages' work' : List ℕ} → HasAskedTo s nothing lent number tree' messages' work'
      → HasParsedTo (lent_call (edits_made (opened words list version) acts list) lent (version_set (opened words list version) acts version))
      number tree' messages' work'
  pub as_asked : {e : Edit} {lent again : Lent} {between : List Act} {seen asked answer : ℕ} {last next : State}
      {tree messages work tree' messages' work' : List ℕ}
      → HasAskedTo s e lent asked tree messages work → Called s between last
      → HasCommittedTo last seen e again answer next tree' messages' work' → seen ≡ s.held.edits → SameLent lent again → kind_in answer < 2
      → AsAsked (left (told_back asked) tree messages work) (left (told_back answer) tree' messages' work')
