-- What reading tells of a buffer.
use Rattle.std.specs.Prelude.{ℕ, Result, Ok, Err}
use Rattle.streams.specs.declared.Failed.{Failed}

-- How many bytes came, also if a read failed then.
abbrev pub came : Result ℕ Failed → ℕ
came (Ok bytes) = bytes
came (Err failed) = failed.bytes
