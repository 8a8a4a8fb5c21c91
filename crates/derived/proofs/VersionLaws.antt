-- Sixteen bits in two's complement: the lower half of them, and the upper.
use Prim.Native.Nat.{ℕ, zero, suc, ◌-◌, ◌≤◌, ◌<◌}
use mathlib.Core.Path.{◌≡◌, refl, ap}
use native.Mathlib.Omega.{arith}
use lib.IntN.{pos, negsuc, ◌-ℤ◌}
use mir.{Syntax.{w16}, Val.{to_z, SFits}, Facts.{to_z_pos}}
use borrow.Author.Tests.{lt-ltb, le-ltb}
use Rattle.molang.specs.Lines.{version_of}

pub version_low : (bits : ℕ) → bits < 32768 → pos bits ≡ version_of bits
version_low bits h = unfold version_of in rw (lt-ltb bits 32768 h, version_of) refl

pub version-high : (bits : ℕ) → 32768 ≤ bits → negsuc (65535 - bits) ≡ version_of bits
version-high bits h = unfold version_of in rw (le-ltb bits 32768 h, version_of) refl

below-zero : (n : ℕ) → negsuc 0 -ℤ pos n ≡ negsuc n
below-zero zero = refl
below-zero (suc n) = ap negsuc (omega arith)

pub below-value : (k : ℕ) → k < 32768 → negsuc 0 -ℤ to_z w16 k ≡ negsuc k
below-value k h = rw (to_z_pos w16 h) (below-zero k)

pub below-fits : (k : ℕ) → k < 32768 → SFits w16 (negsuc 0 -ℤ to_z w16 k)
below-fits k h = rw (below-value k h) (record { sfits = h })
