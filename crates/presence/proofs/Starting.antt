-- The sets that the walks start from, one count after the other (Started): the leading ones of the chosen rows p with fewer than c rows. No set at first
-- (started_none), one more in turn (started-next), all in the end (started-all).
use mathlib.Core.Path.{◌≡◌, sym, ap, ◌∙◌}
use mathlib.Core.Bool.{Bool, true, false}
use mathlib.Core.List.{List}
use Prim.Native.Nat.{ℕ, ◌+◌, ◌≤◌, ◌<◌}
use native.Mathlib.Decide.{ℕ_discrete}
use native.Mathlib.Omega.{arith}
use borrow.Author.Tests.{eq-eqb, ne_eqb}
use lib.Dec.{eqb}
use lib.ListN.{length, set, replicate, length-set, length-replicate, get_or-replicate}
use lib.Seq.{get_or-set_same, get_or-set_other}
use Rattle.rowset.specs.Mask.{mask_count, mask_run, mask_among}
use Rattle.rowset.proofs.Counts.{run-count, run-below, among-count}
use Rattle.presence.specs.Held.{held_at, Starts}

pub record Started (p : ℕ) (v : List Bool) (c : ℕ) : Type 0 where
  pub size : length v ≡ 256
  pub start : (s : ℕ) → s < 256 → mask_count s < c → held_at v s ≡ eqb (mask_among p (mask_run 1 (mask_count s))) s
  pub none : (s : ℕ) → s < 256 → c ≤ mask_count s → held_at v s ≡ false

pub started_none : (p : ℕ) → Started p (replicate 256 false) 0
unfolding held_at
started_none p = record { size = length-replicate 256 false; start = λ s b l. absurd (omega arith); none = λ s b l. get_or-replicate 256 s false false b }

pub leading-count : (p c : ℕ) → p < 256 → c ≤ mask_count p → mask_count p ≤ 8 → mask_count (mask_among p (mask_run 1 c)) ≡ c
leading-count p c lp l few =
    among-count p (mask_run 1 c) lp (run-below (mask_count p) 1 c l) ∙ run-count 1 c (omega arith) (omega arith) (omega arith) ∙ omega arith

module _ {p : ℕ} {v : List Bool} {c : ℕ} (g : Started p v c) (m : ℕ) (e : m ≡ mask_among p (mask_run 1 c)) (k : mask_count m ≡ c) (l : m < 256) where
  pub started-next : Started p (set v m true) (c + 1)
  unfolding held_at
  started-next = record {
    size = length-set v m true ∙ g.size;
    start = λ s b h. elim (ℕ_discrete s m) [
      | yes f ↦ ap (held_at (set v m true)) f ∙ get_or-set_same v m true false (omega (arith, g.size))
          ∙ sym (eq-eqb _ s (ap (λ (x : ℕ). mask_among p (mask_run 1 x)) (ap mask_count f ∙ k) ∙ sym e ∙ sym f))
      | no f ↦ get_or-set_other v m s true false f ∙ elim (ℕ_discrete (mask_count s) c) [
        | yes q ↦ g.none s b (omega arith) ∙ sym (ne_eqb _ s (λ r. f (sym r ∙ ap (λ (x : ℕ). mask_among p (mask_run 1 x)) q ∙ sym e)))
        | no q ↦ g.start s b (omega arith)
      ]
    ];
    none = λ s b h. get_or-set_other v m s true false (λ f. let q : mask_count s ≡ mask_count m = ap mask_count f in omega arith) ∙ g.none s b (omega arith);
  }

pub started-all : {p : ℕ} {v : List Bool} {c : ℕ} → Started p v c → mask_count p < c → Starts p v
started-all g l = record { size = g.size; start = λ s b h. g.start s b (omega arith) }
