-- Words that are written to a row are there, and the others are as they were. Assumes nothing.
use mathlib.Core.Path.{◌≡◌, refl, ap, ◌∙◌}
use mathlib.Core.Bool.{Bool, true, false}
use mathlib.Core.List.{List, [], ◌∷◌, ◌++◌}
use Prim.Native.Nat.{ℕ, zero, suc, ◌+◌, ◌*◌, ◌≤◌, ◌<◌}
use native.Mathlib.Numerals.{add-one}
use native.Mathlib.Omega.{arith}
use lib.Dec.{ltb}
use lib.ListN.{length, get_or, set, length-set}
use lib.Seq.{sets, length-sets, get_or-set_same, get_or-set_other}
use borrow.Author.Tests.{ltb-true, ltb-false}
use Rattle.table.specs.Table.{word_of, with_words}

-- ---- a run of stores

sets_before : (vs l : List ℕ) (i j : ℕ) → j < i → get_or (sets l i vs) j 0 ≡ get_or l j 0
sets_before [] l i j h = refl
sets_before (a ∷ vs) l i j h = sets_before vs (set l i a) (suc i) j (omega arith) ∙ get_or-set_other l i j a 0 (λ e. omega arith)

sets_after : (vs l : List ℕ) (i j : ℕ) → i + length vs ≤ j → get_or (sets l i vs) j 0 ≡ get_or l j 0
sets_after [] l i j h = refl
sets_after (a ∷ vs) l i j h = sets_after vs (set l i a) (suc i) j (omega arith) ∙ get_or-set_other l i j a 0 (λ e. omega arith)

sets_at : (vs l : List ℕ) (i k : ℕ) → k < length vs → i + length vs ≤ length l → get_or (sets l i vs) (i + k) 0 ≡ get_or vs k 0
sets_at [] l i k h r = absurd (omega arith)
sets_at (a ∷ vs) l i zero h r =
    let e : i + 0 ≡ i = omega arith in
    ap (λ (j : ℕ). get_or (sets (set l i a) (suc i) vs) j 0) e ∙ sets_before vs (set l i a) (suc i) i (omega arith) ∙ get_or-set_same l i a 0 (omega arith)
sets_at (a ∷ vs) l i (suc k) h r =
    let e : i + suc k ≡ suc i + k = omega arith in
    let m = length-set l i a in
    ap (λ (j : ℕ). get_or (sets (set l i a) (suc i) vs) j 0) e ∙ sets_at vs (set l i a) (suc i) k (omega arith) (omega arith)

-- ---- words k, k + 1 and so on of row i

pub two_put : (t : List ℕ) (i k v w : ℕ) → set (set t (6 * i + k) v) (6 * i + k + 1) w ≡ with_words t i k (v ∷ w ∷ [])
unfolding with_words
two_put t i k v w = rw add-one

sets-sets : (vs ws t : List ℕ) (i : ℕ) → sets (sets t i vs) (i + length vs) ws ≡ sets t i (vs ++ ws)
sets-sets [] ws t i = let e : i + 0 ≡ i = omega arith in rw e
sets-sets (v ∷ vs) ws t i = let e : i + suc (length vs) ≡ suc i + length vs = omega arith in rw e (sets-sets vs ws (set t i v) (suc i))

-- more of them, behind those
pub more_put : (t : List ℕ) (i k m : ℕ) (vs ws : List ℕ) → m ≡ k + length vs → with_words (with_words t i k vs) i m ws ≡ with_words t i k (vs ++ ws)
unfolding with_words
more_put t i k m vs ws e = let z : 6 * i + m ≡ 6 * i + k + length vs = omega arith in rw z (sets-sets vs ws t (6 * i + k))

-- u has them, and what it has else it has of t
pub record Put (t u : List ℕ) (i k : ℕ) (ws : List ℕ) : Type 0 where
  pub long : length u ≡ length t
  pub here : 6 * i + k + length ws ≤ length t → (c m : ℕ) → m ≡ k + c → c < length ws → word_of u i m ≡ get_or ws c 0
  pub others : (c : ℕ) → (6 * i + k ≤ c → 6 * i + k + length ws ≤ c) → get_or u c 0 ≡ get_or t c 0

pub put_is : (t u : List ℕ) (i k : ℕ) (ws : List ℕ) → u ≡ with_words t i k ws → Put t u i k ws
unfolding with_words
put_is t u i k ws e = rw e (record {
  long = length-sets t (6 * i + k) ws;
  here = λ r c m p l.
      let z : 6 * i + m ≡ 6 * i + k + c = omega arith in
      rw z (sets_at ws t (6 * i + k) c l r);
  others = λ c h. by-test c h (ltb c (6 * i + k)) refl;
})
  where
    by-test : (c : ℕ) → (6 * i + k ≤ c → 6 * i + k + length ws ≤ c) → (b : Bool) → ltb c (6 * i + k) ≡ b → get_or (sets t (6 * i + k) ws) c 0 ≡ get_or t c 0
    by-test c h true l = sets_before ws t (6 * i + k) c (ltb-true c (6 * i + k) l)
    by-test c h false l = sets_after ws t (6 * i + k) c (h (ltb-false c (6 * i + k) l))
