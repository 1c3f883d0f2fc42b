-- Arrays of structs: what owning one tells is said of the list of its fields' values (length-mapped).
use mathlib.Core.Path.{◌≡◌, sym, ◌∙◌}
use mathlib.Core.List.{List, map}
use Prim.Native.Nat.{ℕ}
use lib.ListN.{length, length-map}

pub length-mapped : (X Y : Type 0) (g : X → Y) (l : List X) (n : ℕ) → length (map g l) ≡ n → length l ≡ n
length-mapped X Y g l n e = sym (length-map l g) ∙ e
