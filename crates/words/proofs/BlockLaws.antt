-- Laws of a reserved word by blocks: runs that are white, or have none. Assumes nothing.
use mathlib.Core.Path.{◌≡◌, refl, sym, ap, ◌∙◌}
use mathlib.Core.Bool.{Bool, true, false, ◌&&◌, not, beq, false≢true, and-true}
use mathlib.Core.List.{List, [], ◌∷◌}
use Prim.Native.Nat.{ℕ, ◌+◌, ◌-◌, ◌%◌, ◌≤◌, ◌<◌}
use native.Mathlib.Nat.{le_refl}
use native.Mathlib.Omega.{arith}
use lib.Dec.{eqb, ltb}
use lib.ListN.{length, get_or}
use borrow.Author.Tests.{eqb-false, not-true}
use Rattle.rules.specs.declared.Case.{Case}
use Rattle.rules.specs.Text.{is_white, in_case, equalize_whitespace}
use Rattle.ascii.specs.Part.{part}
use Rattle.ascii.proofs.PartLaws.{part-suc, part-more}
use Rattle.text.specs.Put.{put}
use Rattle.words.specs.declared.Joined.{Joined}
use Rattle.words.specs.Words.{Written, fresh, piece_at, Joins, all_white}
use Rattle.words.proofs.CaseLaws.{length-cased}
use Rattle.words.proofs.JoinLaws.{joined_at, all_more, all-cased, black-long}
use Rattle.words.proofs.CopyLaws.{so_far, joins-white, joins-black, by-none-joined, by-all-joined, by-part-room, by-more, by-room}

-- ---- a run

module _ (white : Bool) where
  pub by-one-more : (s : List ℕ) (start n i : ℕ) (all b : Bool) → start + n ≤ length s → i < n → all ≡ all_white white (part s start i) → b ≡ is_white (get_or s (start + i) 0)
      → (all && beq b white) ≡ all_white white (part s start (i + 1))
  by-one-more s start n i all b h c e f =
      rw (part-suc s start i (omega arith), all_more white (part s start i) (get_or s (start + i) 0 ∷ []), and-true (beq (is_white (get_or s (start + i) 0)) white), e, f)

  pub by-block-more : (s : List ℕ) (start i n : ℕ) (b : Bool) → all_white white (part s start i) ≡ true → b ≡ all_white white (part s (start + i) n) → b ≡ true
      → all_white white (part s start (i + n)) ≡ true
  by-block-more s start i n b e f g = rw (part-more s start i n, all_more white (part s start i) (part s (start + i) n), e) (sym f ∙ g)

  pub by_all : (s : List ℕ) (start i n : ℕ) (all : Bool) → i ≤ n → n ≤ i → all ≡ all_white white (part s start i) → all ≡ all_white white (part s start n)
  by_all s start i n all h g e = let j : i ≡ n = omega arith in e ∙ ap (λ (m : ℕ). all_white white (part s start m)) j

-- ---- the loop

-- i of n bytes, in blocks, took the word to k
pub record Blocks (at : ℕ) (d s : List ℕ) (start n : ℕ) (c : Case) (i : ℕ) (t : List ℕ) (k : Joined) : Type 0 where
  pub within : i ≤ n
  pub whole : i % 32 ≡ 0
  pub joins : Joins at d (fresh at) (in_case c (part s start i)) t k
  pub same : length t ≡ length d

-- what is known of a run of m bytes
abbrev Run : Bool → List ℕ → ℕ → ℕ → ℕ → Type 0
Run white s start n m = (m ≤ n) × (m % 32 ≡ 0) × (all_white white (part s start m) ≡ true)

-- what the test before a copy tells
no_gap : (gap some b : Bool) → b ≡ (not gap && some) → b ≡ true → gap ≡ false
no_gap true some b e f = sym f ∙ e
no_gap false some b e f = refl

pub by-some : (none : Bool) (m : ℕ) (b : Bool) → b ≡ (none && not (eqb m 0)) → b ≡ true → 0 < m
by-some true m b e f = let z = eqb-false m 0 (not-true (eqb m 0) (sym e ∙ f)) in omega arith
by-some false m b e f = absurd (false≢true (sym e ∙ f))

pub by-start : (at : ℕ) (d s : List ℕ) (start n : ℕ) (c : Case) → Blocks at d s start n c 0 d (fresh at)
by-start at d s start n c = record { within = omega arith; whole = refl; joins = by-none-joined at d (fresh at) s start c; same = refl }

module _ (at : ℕ) (d s : List ℕ) (start n : ℕ) (c : Case) (r : at + length (piece_at at (fresh at) (in_case c (part s start n))) ≤ length d)
    (o : (start + n ≤ length s) × (n % 32 ≡ 0)) (i : ℕ) (t : List ℕ) (k : Joined) (p : Blocks at d s start n c i t k) where
  on : (m : ℕ) → i + m ≤ n → m % 32 ≡ 0 → (t' : List ℕ) (l : Joined) → Joins at t k (in_case c (part s (start + i) m)) t' l → length t' ≡ length t → Blocks at d s start n c (i + m) t' l
  on m b z t' l q e =
      let w = p.whole in
      let f = p.same in
      record {
        within = b;
        whole = omega arith;
        joins = by-more at d (fresh at) s start n c (le_refl at) r i t k.end k.gap p.joins m t' l q;
        same = e ∙ f;
      }

  pub by_blocks : n - i < 32 → Joins at d (fresh at) (in_case c (part s start n)) t k
  by_blocks g =
      let h = p.within in
      let z = p.whole in
      let w = o.1 in
      by-all-joined at d (fresh at) s start n i c t k h (omega arith) p.joins

  room : (m : ℕ) → i + m ≤ n → k.end + length (piece_at at k (in_case c (part s (start + i) m))) ≤ length t
  room m b = by-room at d (fresh at) s start n c (le_refl at) r i t k.end k.gap p.joins m b p.same

  pub by-block-room : 32 ≤ n - i → k.end + length (piece_at at k (in_case c (part s (start + i) 32))) ≤ length t
  by-block-room g = let h = p.within in room 32 (omega arith)

  pub by-block : 32 ≤ n - i → (t' : List ℕ) (l : Joined) → Joins at t k (in_case c (part s (start + i) 32)) t' l → length t' ≡ length t → Blocks at d s start n c (i + 32) t' l
  by-block g t' l q e = let h = p.within in on 32 (omega arith) refl t' l q e

  module _ (m : ℕ) where
    long : m ≤ n - i → length (in_case c (part s (start + i) m)) ≡ m
    long b =
        let h = p.within in
        let g = o.0 in
        length-cased c s (start + i) m (omega arith)

    pub by-white-run : Run true s (start + i) (n - i) m → (m ≡ 0 → ⊥) → Blocks at d s start n c (i + m) t (so_far k.end (ltb at k.end))
    by-white-run f z =
        let h = p.within in
        let b = f.0 in
        let l = long b in
        let y : 1 ≤ m = omega arith in
        on m (omega arith) f.1 t _ (joins-white at t k (in_case c (part s (start + i) m)) (all-cased true c (part s (start + i) m) ∙ f.2) (omega arith)) refl

    module _ (f : Run false s (start + i) (n - i) m) where
      none : all_white false (in_case c (part s (start + i) m)) ≡ true
      none = all-cased false c (part s (start + i) m) ∙ f.2

      pub by-run-room : k.end + m ≤ length t
      by-run-room =
          let h = p.within in
          let u = f.0 in
          let l = long u in
          let v = room m (omega arith) in
          let w = black-long (ltb at k.end) k.gap (in_case c (part s (start + i) m)) none in
          omega arith

      pub by-black-run : (some b : Bool) → b ≡ (not k.gap && some) → b ≡ true → (t' : List ℕ) → t' ≡ put t k.end (in_case c (part s (start + i) m)) → length t' ≡ length t
          → Blocks at d s start n c (i + m) t' (so_far (k.end + m) false)
      by-black-run some b g e t' q x =
          let h = p.within in
          let u = f.0 in
          let j = joins-black at t k (in_case c (part s (start + i) m)) none (no_gap k.gap some b g e) t' q in
          on m (omega arith) f.1 t' _ (rw (long u) at j) x

-- ---- the blocks, and the bytes after them

module _ (at : ℕ) (d s : List ℕ) (start n : ℕ) (c : Case) (r : at + length (equalize_whitespace (in_case c (part s start n))) ≤ length d) where
  fits : at + length (piece_at at (fresh at) (in_case c (part s start n))) ≤ length d
  fits = rw (joined_at at (in_case c (part s start n))) at r

  pub by-whole-room : at + length (piece_at at (fresh at) (in_case c (part s start (n - n % 32)))) ≤ length d
  by-whole-room = by-part-room at d (fresh at) s start n c (le_refl at) fits (n - n % 32) (omega arith)

  module _ (t : List ℕ) (k : Joined) (p : Joins at d (fresh at) (in_case c (part s start (n - n % 32))) t k) where
    pub by-rest-room : length t ≡ length d → k.end + length (piece_at at k (in_case c (part s (start + (n - n % 32)) (n % 32)))) ≤ length t
    by-rest-room e = by-room at d (fresh at) s start n c (le_refl at) fits (n - n % 32) t k.end k.gap p (n % 32) (omega arith) e

    pub by-joined : (t' : List ℕ) (l : Joined) → Joins at t k (in_case c (part s (start + (n - n % 32)) (n % 32))) t' l → Written d at (equalize_whitespace (in_case c (part s start n))) t' l.end
    by-joined t' l q =
        let e : n - n % 32 + n % 32 ≡ n = omega arith in
        let j = by-more at d (fresh at) s start n c (le_refl at) fits (n - n % 32) t k.end k.gap p (n % 32) t' l q in
        rw (joined_at at (in_case c (part s start n))) (rw e at j.wrote)
