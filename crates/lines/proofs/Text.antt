-- Text put one piece behind the other (`puts-behind`, and in a loop `Left`), at once (`puts-part`), and an element of a list at a time (`Spelt`). How long
-- texts are at most (`spaced-short`, `bytes-short`).
use Prim.Native.Nat.{ℕ, suc, ◌+◌, ◌-◌, ◌*◌, ◌≤◌, ◌<◌, min}
use native.Mathlib.Numerals.{add-one}
use native.Mathlib.Decide.{dec_le}
use native.Mathlib.Omega.{arith}
use mathlib.Core.Path.{◌≡◌, refl, sym, ap, ◌∙◌}
use mathlib.Core.Bool.{Bool, true, false, cond}
use mathlib.Core.List.{List, [], ◌∷◌, ◌++◌, append_assoc, flat_map}
use borrow.Rule.Slice.PartMut.{put_mid}
use lib.ListN.{length, get_or, take, drop, length-append, drop_of_length-le, take-append-drop}
use lib.Seq.{drop-cons, drop-drop, sets, length-sets, sets-eq, length-take-le, take_all, take_at}
use Rattle.arrays.proofs.Runs.{sets-append, sets-out}
use Rattle.lines.specs.Ascii.{ascii}
use Rattle.lines.specs.Text.{index_after, Puts, spaced, pair_text, pairs_text, bytes_text}

module _ (a b out : List ℕ) (at : ℕ) where
  sets_behind : sets (sets out at a) (index_after out at a) b ≡ sets out at (a ++ b)
  unfolding index_after
  sets_behind = go (dec_le (at + length a) (length out))
    where
      go : Dec (at + length a ≤ length out) → sets (sets out at a) (at + min (length a) (length out - at)) b ≡ sets out at (a ++ b)
      go (yes h) =
          let e : at + min (length a) (length out - at) ≡ at + length a = omega arith in
          rw e (sets-append out a b at)
      go (no n) =
          let f = length-sets out at a in
          sets-out (sets out at a) b _ (omega arith) ∙ sym (sets-out (sets out at a) b (at + length a) (omega arith)) ∙ sets-append out a b at

  index-behind : index_after (sets out at a) (index_after out at a) b ≡ index_after out at (a ++ b)
  unfolding index_after
  index-behind = simp (length-sets, length-append) (omega arith)

-- one piece put behind the other
pub puts-behind : {a b out out' out'' : List ℕ} {at to to' : ℕ} → Puts out at a out' to → Puts out' to b out'' to' → Puts out at (a ++ b) out'' to'
puts-behind {a} {b} {out} {at = at} p q =
    record { index = q.index ∙ rw (p.index, p.bytes) (index-behind a b out at); bytes = q.bytes ∙ rw (p.index, p.bytes) (sets_behind a b out at) }

-- text that has room is put whole
pub puts_whole : {out text after : List ℕ} {to : ℕ} → Puts out 0 text after to → length text ≤ length out → (to ≡ length text) × (after ≡ sets out 0 text)
unfolding index_after
puts_whole p h = (p.index ∙ omega arith, p.bytes)

-- and stands behind what stood before its index
pub puts-room : {out text after : List ℕ} {at to : ℕ} → Puts out at text after to → at + length text ≤ length out
    → (to ≡ at + length text) × (take to after ≡ take at out ++ text)
unfolding index_after
puts-room {out} {text} {after} {at} {to} p h =
    let e : to ≡ at + length text = p.index ∙ omega arith in
    let l : length (take at out ++ text) ≡ at + length text = simp (length-append, length-take-le at out (omega arith)) in
    (e, rw (e, p.bytes, sets-eq text out at h) (take_at (take at out ++ text) (drop (at + length text) out) (at + length text) l))

-- what is left to be put of a text: behind what was put, it completes the text
pub record Left (out₀ : List ℕ) (at : ℕ) (text out : List ℕ) (to : ℕ) (rest : List ℕ) : Type 0 where
  pub kept : length out ≡ length out₀
  pub completes : {out' : List ℕ} {to' : ℕ} → Puts out to rest out' to' → Puts out₀ at text out' to'

pub left-all : (out : List ℕ) (at : ℕ) (text : List ℕ) → Left out at text out at text
left-all out at text = record { kept = refl; completes = λ q. q }

puts_none : (out : List ℕ) (at : ℕ) → Puts out at [] out at
unfolding index_after
puts_none out at = record { index = omega arith; bytes = refl }

module _ {out₀ : List ℕ} {at : ℕ} {text out : List ℕ} {to : ℕ} where
  pub left-none : Left out₀ at text out to [] → Puts out₀ at text out to
  left-none p = p.completes (puts_none out to)

  pub left_behind : {a b out' : List ℕ} {to' : ℕ} → Left out₀ at text out to (a ++ b) → Puts out to a out' to' → Left out₀ at text out' to' b
  left_behind p q = record { kept = rw (q.bytes, length-sets) p.kept; completes = λ r. p.completes (puts-behind q r) }

pub bytes-none : (s : List ℕ) → length s ≡ 0 → bytes_text s ≡ ascii "-"
bytes-none [] e = refl
bytes-none (b ∷ s) e = absurd (omega arith)

pub bytes-some : (s : List ℕ) → (length s ≡ 0 → ⊥) → bytes_text s ≡ pairs_text s
bytes-some [] n = absurd (n refl)
bytes-some (b ∷ s) n = refl

-- text past the end of `out`, where nothing is put
pub puts-out : (out text : List ℕ) (at : ℕ) → length out ≤ at → Puts out at text out at
unfolding index_after
puts-out out text at h = record { index = omega arith; bytes = sym (sets-out out text at h) }

-- text that is put at once, as much of it as there is room for
module _ (out text : List ℕ) (at n : ℕ) (h : at ≤ length out) (e : n ≡ min (length text) (length out - at)) where
  cut : sets out at text ≡ sets out at (take n text)
  cut = go (dec_le (length text) n)
    where
      go : Dec (length text ≤ n) → sets out at text ≡ sets out at (take n text)
      go (yes f) = rw (take_all n text f)
      go (no f) =
          let l : length (take n text) ≡ n = length-take-le n text (omega arith) in
          ap (sets out at) (sym (take-append-drop n text))
          ∙ sym (sets-append out (take n text) (drop n text) at)
          ∙ sets-out (sets out at (take n text)) (drop n text) _ (omega (arith, length-sets out at (take n text), l))

  pub puts-part : Puts out at text (put_mid at (at + n - at) out (take n text)) (at + n)
  unfolding index_after
  puts-part =
      let l : length (take n text) ≡ n = length-take-le n text (omega arith) in
      let m : at + n - at ≡ n = omega arith in
      record { index = omega arith; bytes = rw (m, drop-drop n at out) (sym (cut ∙ sets-eq (take n text) out at (omega arith) ∙ rw (l, append_assoc))) }

-- A LOOP that puts the texts of a list's elements, one behind the other: the first i are put
module _ {A : Type 0} (text : A → List ℕ) where
  texts-at : (d : A) (L : List A) (i : ℕ) → i < length L → flat_map text (drop i L) ≡ text (get_or L i d) ++ flat_map text (drop (i + 1) L)
  unfolding flat_map
  texts-at d L i h = rw (drop-cons L i d h, add-one)

  texts-none : flat_map text [] ≡ []
  unfolding flat_map
  texts-none = refl

  pub record Spelt (out₀ : List ℕ) (at : ℕ) (L : List A) (out : List ℕ) (to i : ℕ) : Type 0 where
    pub within : i ≤ length L
    pub left : Left out₀ at (flat_map text L) out to (flat_map text (drop i L))

  pub spelt-none : (out : List ℕ) (at : ℕ) (L : List A) → Spelt out at L out at 0
  spelt-none out at L = record { within = omega arith; left = left-all out at (flat_map text L) }

  module _ {out₀ : List ℕ} {at : ℕ} {L : List A} {out : List ℕ} {to i : ℕ} (p : Spelt out₀ at L out to i) where
    pub spelt-end : length L ≤ i → Puts out₀ at (flat_map text L) out to
    spelt-end h = left-none (rw (drop_of_length-le L h, texts-none) at p.left)

    pub spelt-more : (d : A) (h : i < length L) {out' : List ℕ} {to' : ℕ} → Puts out to (text (get_or L i d)) out' to' → Spelt out₀ at L out' to' (i + 1)
    spelt-more d h q = record { within = omega arith; left = left_behind (rw (texts-at d L i h) at p.left) q }

-- ---- how long texts are
-- what holds of both of two holds of the one that a test chooses
pub cond_cases : {A : Type 0} (P : A → Type 0) (t : Bool) {a b : A} → (t ≡ true → P a) → (t ≡ false → P b) → P (cond t a b)
cond_cases P true f g = f refl
cond_cases P false f g = g refl

-- the texts of a list's elements, none of which has more than b bytes
texts-short : {A : Type 0} (text : A → List ℕ) (b : ℕ) → ((x : A) → length (text x) ≤ b) → (L : List A) → length (flat_map text L) ≤ b * length L
unfolding flat_map
texts-short text b h [] = omega arith
texts-short text b h (x ∷ L) = simp length-append (omega (arith, h x, texts-short text b h L))

pub spaced-short : {A : Type 0} (text : A → List ℕ) (b : ℕ) → ((x : A) → length (text x) ≤ b) → (L : List A) → length (spaced text L) ≤ suc b * length L
spaced-short text b h = texts-short (λ x. ascii " " ++ text x) (suc b) (λ x. omega (arith, h x))

pub bytes-short : (s : List ℕ) → length (bytes_text s) ≤ 2 * length s + 1
bytes-short [] = omega arith
bytes-short (b ∷ s) = omega (arith, texts-short pair_text 2 (λ x. omega arith) (b ∷ s))
