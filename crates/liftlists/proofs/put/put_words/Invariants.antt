-- `liftlists::put::put_words`: the first words are laid.
use Rattle.std.proofs.Common.{take}
use Rattle.text.specs.Text.{Wrote}
use Rattle.liftlists.specs.LiftedFile.{bytes_of}
use Rattle.liftlists.proofs.put.put_words.Given as goal

abbrev pub invariant-loop-w : goal.invariant-loop-w
invariant-loop-w l = Wrote l.initial.out l.at (bytes_of (take l.w-index l.words)) l.end l.out
