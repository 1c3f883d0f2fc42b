-- Lists in the words of a line, for any reader f of a word that gives k numbers: how many numbers a list has (`counted`), and a loop over its words (`Passed`).
-- The numbers of the words passed stand in the list; appended with those of the words to come they are the numbers of all the words.
use Prim.Native.Nat.{ℕ, zero, suc, ◌+◌, ◌-◌, ◌*◌, ◌≤◌, ◌<◌}
use native.Mathlib.Nat.{zero-mul, mul-le-mul_right}
use native.Mathlib.Omega.{arith}
use mathlib.Core.Path.{◌≡◌, refl, sym, ap, ◌∙◌}
use mathlib.Core.List.{List, [], ◌∷◌, ◌++◌, append-nil, append_assoc}
use Rattle.std.specs.Prelude.{Option, Some, None}
use lib.ListN.{length, take, drop, length-append}
use lib.Seq.{sets, sets-eq, length-sets, take_at, length-take-le}
use Rattle.lines.specs.Words.{word_at, next_word}
use Rattle.requests.specs.Words.{words_at}
use Rattle.requests.specs.Lists.{appended, spelled_list}
use Rattle.requests.proofs.Words.{words-at, words-past}

module _ {A : Type 0} where
  -- k numbers for each of n words
  abbrev pub Counted : ℕ → ℕ → Option (List A) → Type 0
  Counted k n None = Unit {0}
  Counted k n (Some l) = length l ≡ n * k

  counted-more : (k n : ℕ) (o m : Option (List A)) → Counted k 1 o → Counted k n m → Counted k (suc n) (appended o m)
  counted-more k n None m h i = tt
  counted-more k n (Some l) None h i = tt
  counted-more k n (Some l) (Some m) h i = omega (arith, length-append l m)

  module _ (f : List ℕ → Option (List A)) (k : ℕ) (each : (w : List ℕ) → Counted k 1 (f w)) where
    pub counted : (n : ℕ) (ws : List (List ℕ)) → Counted k (length ws) (spelled_list f n ws)
    unfolding spelled_list
    counted n [] = omega arith
    counted zero (w ∷ ws) = tt
    counted (suc n) (w ∷ ws) = counted-more k (length ws) (f w) (spelled_list f n ws) (each w) (counted n ws)

  appended-nil : (o : Option (List A)) → o ≡ appended (Some []) o
  appended-nil None = refl
  appended-nil (Some m) = refl

  appended-assoc : (l m : List A) (o : Option (List A)) → appended (Some l) (appended (Some m) o) ≡ appended (Some (l ++ m)) o
  appended-assoc l m None = refl
  appended-assoc l m (Some n) = ap Some (sym (append_assoc l m n))

  -- numbers are put at an index
  pub take-sets : (l vs : List A) (i : ℕ) → i + length vs ≤ length l → take (i + length vs) (sets l i vs) ≡ take i l ++ vs
  take-sets l vs i h =
      let n : length (take i l ++ vs) ≡ i + length vs = omega (arith, length-append (take i l) vs, length-take-le i l (omega arith)) in
      rw (sets-eq vs l i h) (take_at (take i l ++ vs) (drop (i + length vs) l) (i + length vs) n)

-- the words before `next` are read, and their numbers stand at the start of the list
pub record Passed {A : Type 0} (f : List ℕ → Option (List A)) (k : ℕ) (line : List ℕ) (at : ℕ) (list₀ list : List A) (next count : ℕ) : Type 0 where
  pub room : 16 * k ≤ length list₀
  pub kept : length list ≡ length list₀
  pub few : count ≤ 16
  pub same : spelled_list f 16 (words_at line at) ≡ appended (Some (take (count * k) list)) (spelled_list f (16 - count) (words_at line next))

module _ {A : Type 0} {f : List ℕ → Option (List A)} {k : ℕ} {line : List ℕ} {at : ℕ} where
  pub passed_none : {list : List A} → 16 * k ≤ length list → Passed f k line at list list at 0
  passed_none h = record { room = h; kept = refl; few = omega arith; same = rw zero-mul (appended-nil _) }

  module _ {list₀ list : List A} {next count : ℕ} (p : Passed f k line at list₀ list next count) where
    pub passed-end : length line < next → Some (take (count * k) list) ≡ spelled_list f 16 (words_at line at)
    unfolding spelled_list
    passed-end h = sym (p.same ∙ rw (words-past line next h) (ap Some (append-nil (take (count * k) list))))

    module _ (h : next ≤ length line) where
      pub passed-many : 16 ≤ count → None ≡ spelled_list f 16 (words_at line at)
      unfolding spelled_list
      passed-many m =
          let z : 16 - count ≡ 0 = omega arith in
          sym (p.same ∙ rw (words-at line next h, z))

      module _ (m : count < 16) where
        passed-word : spelled_list f 16 (words_at line at)
            ≡ appended (Some (take (count * k) list))
            (appended (f (word_at line next)) (spelled_list f (16 - (count + 1)) (words_at line (next_word line next))))
        unfolding spelled_list
        passed-word =
            let z : 16 - count ≡ suc (16 - (count + 1)) = omega arith in
            p.same ∙ rw (words-at line next h, z)

        pub passed-other : f (word_at line next) ≡ None → None ≡ spelled_list f 16 (words_at line at)
        passed-other e = sym (passed-word ∙ rw e)

        pub passed-more : {l : List A} (vs : List A) → f (word_at line next) ≡ Some vs → length vs ≡ k → l ≡ sets list (count * k) vs →
            Passed f k line at list₀ l (next_word line next) (count + 1)
        passed-more vs e n s =
            let t : (count + 1) * k ≡ count * k + length vs = omega arith in
            let fits : count * k + length vs ≤ length list = omega (arith, p, mul-le-mul_right k m) in
            record {
              room = p.room;
              kept = ap length s ∙ length-sets list (count * k) vs ∙ p.kept;
              few = omega arith;
              same =
                  passed-word ∙ rw (e, t, s, take-sets list vs (count * k) fits)
                  (appended-assoc (take (count * k) list) vs (spelled_list f (16 - (count + 1)) (words_at line (next_word line next))));
            }
