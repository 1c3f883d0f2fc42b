-- Words: a number whose mantissa fits, packed, unpacks to itself (`unpack-pack`).
use mathlib.Core.Path.{◌≡◌, ap₂}
use Prim.Native.Nat.{ℕ, ◌^◌, ◌<◌}
use lib.Pow.{high, low}
use Rattle.number.specs.declared.Number.{Number}
use Rattle.number.specs.Packed.{pack_of, unpack_of}

pub unpack-pack : (a : Number) → a.m < 2 ^ 32 → unpack_of (pack_of a) ≡ a
unfolding pack_of unpack_of
unpack-pack a h = ap₂ (λ (m x : ℕ). record { m = m; x = x }) (low a.x 32 h) (high a.x 32 h)
