-- What the passes leave of a list, and the answer of the definition that it stands for: roots under slot 0, or failures that name the slots
-- of the messages' tokens.
use Rattle.std.specs.Prelude.{ℕ, ◌*◌, ◌≤◌, List, [], ◌∷◌, ◌++◌, Result, Ok, Err, ⊤}
use Rattle.molang.specs.Forest.{Token, Forest, size}
use Rattle.molang.specs.Message.{Message, multiple_roots, complex_must_end_with_semicolon}
use Rattle.molang.specs.Read.{Answer, messages, rooted}
use Rattle.nodes.specs.Store.{TokenAt, Owned}
use Rattle.levels.specs.Failures.{Tells, TellsMismatch, TellsUnclosed}
use Rattle.levels.specs.declared.failure.Failure.{Failure}
use Rattle.levels.specs.declared.failure.Failure.TheVariants.{ComplexMustEndWithSemicolon, ComplexWithoutTokens}
use Rattle.levels.specs.declared.failure.Mismatch.{Mismatch}
use Rattle.levels.specs.declared.failure.Unclosed.{Unclosed}
use Rattle.levels.specs.declared.failure.Fault.{Fault}
use Rattle.levels.specs.declared.failure.Fault.TheVariants.{Failed, Mismatched, Unclosed as Unclosing, PointerFailed}

-- The messages of a failure of any pass, the check of the last token among them, over a source of that length.
pub data Says (W : List ℕ) (source_length : ℕ) : Failure → List Message → Type 0 where
  tells : {f : Failure} {ms : List Message} → Tells W f ms → Says W source_length f ms
  not_ended : {s : ℕ} {k : Token} → TokenAt W s k
      → Says W source_length (ComplexMustEndWithSemicolon s) (complex_must_end_with_semicolon k.start k.end ∷ [])
  without_tokens : Says W source_length ComplexWithoutTokens (complex_must_end_with_semicolon 0 source_length ∷ [])

-- The roots of n tokens have at most three nodes for each, in the slots below hi.
pub data StandsFor (W : List ℕ) (hi n source_length : ℕ) : Result ⊤ Fault → Answer → Type 0 where
  roots : {f : Forest} → Owned W [] 0 0 hi f → size f ≤ 3 * n → StandsFor W hi n source_length (Ok tt) (rooted source_length [] f)
  failed : {f : Failure} {ms : List Message} → Says W source_length f ms → StandsFor W hi n source_length (Err (Failed f)) (messages ms)
  mismatched : {m : Mismatch} {ms : List Message} → TellsMismatch W m ms → StandsFor W hi n source_length (Err (Mismatched m)) (messages ms)
  unclosed : {u : Unclosed} {ms : List Message} → TellsUnclosed W u ms → StandsFor W hi n source_length (Err (Unclosing u)) (messages ms)
  pointer_failed : {f : Failure} {ms : List Message} → Tells W f ms
      → StandsFor W hi n source_length (Err (PointerFailed f)) (messages (ms ++ (multiple_roots 0 source_length 0 ∷ [])))
