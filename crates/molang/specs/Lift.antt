-- The lift of an archive's list from one engine to another ('Next we lift the whole archive of old packs to the present version', document
-- 02, card 12; its nesting limits are card 8's): the list stays as it is, or it is written so that the new engine reads it as the old one
-- did, or it stays behind, for a reason with number and place. Then what is shown of it.
use Rattle.std.specs.Prelude.{ℕ, ◌/◌, ◌%◌, ◌≡◌, Bool, true, false, ◌&&◌, List, [], ◌∷◌, eqb, leb, ℤ, length}
use Rattle.std.proofs.Math.Option.{Option, none, some}
use Rattle.molang.specs.Operator
use Rattle.molang.specs.Forest.{Token, Forest, nil, node, leaves}
use Rattle.molang.specs.Message.{Message}
use Rattle.molang.specs.Read.{Answer, tree, messages, read, highest_end, uses}
use Rattle.molang.specs.FirstFailure.{must, first_of}
use Rattle.molang.specs.Words.{Refusal, row, with_number, operator_field, words_refusal, tokens_of, list_words, tree_words}
use Rattle.molang.specs.Nesting.{too_deep}
use Rattle.molang.specs.Parse.{most_tokens, is_limit}
use Rattle.molang.specs.Plain.{unplain_at}
use Rattle.molang.specs.Write.{written_tree, taken_away, comparable}

-- ---- Two engines and a list

-- An engine: the version at which it reads, and its nesting limit.
pub record Engine : Type 0 where
  pub version : ℤ
  pub limit : ℕ

-- THE READING OF A LIST with its own used set, its highest span end being the source length (document 01, end of 'Lists and their trees').
unfoldable pub own_reading : ℤ → List ℕ → Answer
own_reading version list = let ks = tokens_of list in read ks (uses ks) version (highest_end 0 (leaves ks))

-- Two lists of words are equal.
unfoldable pub eq_words : List ℕ → List ℕ → Bool
eq_words [] [] = true
eq_words [] (b ∷ bs) = false
eq_words (a ∷ as') [] = false
eq_words (a ∷ as') (b ∷ bs) = eqb a b && eq_words as' bs

-- Two answers are trees, every word equal.
unfoldable pub are_same : Answer → Answer → Bool
are_same (tree k cs) (tree l ds) = eq_words (tree_words (node k cs nil)) (tree_words (node l ds nil))
are_same (tree k cs) (messages ns) = false
are_same (messages ms) (tree l ds) = false
are_same (messages ms) (messages ns) = false

-- ---- What becomes of the list

-- Where the old engine turns the list back: the table's rows that speak of a list, in its order; 17 speaks of both limits.
unfoldable pub lift_refusal : Engine → Engine → List ℕ → Option Refusal
lift_refusal from to list =
    first_of
    (must (eqb (length list % 5) 0) (row 1 0)
    ∷ must (leb (length list / 5) most_tokens) (row 2 0)
    ∷ must (is_limit from.limit && is_limit to.limit) (row 17 0)
    ∷ words_refusal 0 operator_field 0 list
    ∷ with_number 18 (too_deep from.limit (tokens_of list))
    ∷ [])

-- Where the tree k over cs is not written for a limit: answers 13 and 14 of the writer, and 18 of what it writes.
unfoldable pub unwritable : ℕ → Token → Forest → Option Refusal
unwritable limit k cs =
    first_of
    (with_number 13 (unplain_at k cs)
    ∷ must (leb (length (written_tree k cs)) most_tokens) (row 14 0)
    ∷ with_number 18 (too_deep limit (written_tree k cs))
    ∷ [])

-- The list stays word for word; it comes out as other words; or it stays behind, with a refusal's number and place, or 0 and the number of
-- its messages.
pub data Lifted : Type 0 where
  same : Lifted
  lifted : List ℕ → Lifted
  behind : ℕ → ℕ → Lifted

-- A list with a refusal stays behind; another comes to what is said of it.
unfoldable pub or_behind : Option Refusal → Lifted → Lifted
or_behind (some r) l = behind r.number r.place
or_behind none l = l

-- By whether both engines read the same tree, k over cs: if not, it is written.
unfoldable pub or_written : Bool → ℕ → Token → Forest → Lifted
or_written true limit k cs = same
or_written false limit k cs = or_behind (unwritable limit k cs) (lifted (list_words (written_tree k cs)))

-- By the reading at the old engine: messages, or a tree, whose list must be within the new limit.
unfoldable pub after_old : Engine → List ℕ → Answer → Lifted
after_old to list (messages ms) = behind 0 (length ms)
after_old to list (tree k cs) =
    or_behind (with_number 18 (too_deep to.limit (tokens_of list)))
    (or_written (are_same (tree k cs) (own_reading to.version list)) to.limit k cs)

-- THE LIFT of a list from one engine to another.
unfoldable pub lift_of : Engine → Engine → List ℕ → Lifted
lift_of from to list = or_behind (lift_refusal from to list) (after_old to list (own_reading from.version list))

-- What comes out of a lift, where the list does not stay behind.
unfoldable pub out_of : List ℕ → Lifted → Option (List ℕ)
out_of list same = some list
out_of list (lifted out) = some out
out_of list (behind number place) = none

-- BY WAY OF engines: each gets what came out before.
unfoldable pub by_engines : Engine → List Engine → List ℕ → Option (List ℕ)
by_engines here [] list = some list
by_engines here (next ∷ more) list = elim (out_of list (lift_of here next list)) [ some out ↦ by_engines next more out | none ↦ none ]

-- The engine at the end of the way.
unfoldable pub last_engine : Engine → List Engine → Engine
last_engine here [] = here
last_engine here (next ∷ more) = last_engine next more

-- ---- What is shown of it

-- The list that came out READS AT THE NEW ENGINE AS THE GIVEN ONE DID AT THE OLD: with its own used set it is not turned back there, and
-- with brackets taken away the two trees have the same words, in a script but for what its semicolons carry (card 1).
pub record ReadsAlike (from to : Engine) (list out : List ℕ) : Type 0 where
  pub root : Token
  pub children : Forest
  pub reads : own_reading from.version list ≡ tree root children
  pub accepted : lift_refusal to to out ≡ none
  pub root_again : Token
  pub children_again : Forest
  pub reads_again : own_reading to.version out ≡ tree root_again children_again
  pub words : tree_words (comparable (taken_away false (node root_again children_again nil) nil))
      ≡ tree_words (comparable (taken_away false (node root children nil) nil))
  pub all_words : eqb root.op Operator.semicolon ≡ false
      → tree_words (taken_away false (node root_again children_again nil) nil) ≡ tree_words (taken_away false (node root children nil) nil)

-- A lift leaves the list, or gives these words.
pub data SameOr (out : List ℕ) (l : Lifted) : Type 0 where
  stays : l ≡ same → SameOr out l
  becomes : l ≡ lifted out → SameOr out l

-- What a lift of a written list asks of an engine: a legal limit, which the list is within.
pub record CanHold (e : Engine) (list : List ℕ) : Type 0 where
  pub legal_limit : is_limit e.limit ≡ true
  pub within : too_deep e.limit (tokens_of list) ≡ none

-- WHY A LIST STAYS BEHIND, with number and place: the old engine turns it back or has messages for it; or it reads a tree there, and the
-- list is too deep for the new engine; or the new engine reads it otherwise, and its tree is not plain, too long or too deep as written.
pub data Reason (from to : Engine) (list : List ℕ) (number place : ℕ) : Type 0 where
  refused_list : lift_refusal from to list ≡ some (row number place) → Reason from to list number place
  has_messages : {ms : List Message} → lift_refusal from to list ≡ none → own_reading from.version list ≡ messages ms → number ≡ 0
      → place ≡ length ms → Reason from to list number place
  too_deep_as_it_is : {k : Token} {cs : Forest} → lift_refusal from to list ≡ none → own_reading from.version list ≡ tree k cs
      → too_deep to.limit (tokens_of list) ≡ some place → number ≡ 18 → Reason from to list number place
  not_written : {k : Token} {cs : Forest} → lift_refusal from to list ≡ none → own_reading from.version list ≡ tree k cs
      → too_deep to.limit (tokens_of list) ≡ none → are_same (tree k cs) (own_reading to.version list) ≡ false
      → unwritable to.limit k cs ≡ some (row number place) → Reason from to list number place

-- What a list that comes out has: the old engine reads it as the tree k over cs, and it is within the new limit.
pub record CanCome (from to : Engine) (list : List ℕ) (k : Token) (cs : Forest) : Type 0 where
  pub accepted : lift_refusal from to list ≡ none
  pub reads : own_reading from.version list ≡ tree k cs
  pub within : too_deep to.limit (tokens_of list) ≡ none
