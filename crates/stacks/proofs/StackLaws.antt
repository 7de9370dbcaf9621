-- Laws of a stack in an array. Assumes nothing.
use mathlib.Core.Path.{◌≡◌, refl, sym, ap, ◌∙◌}
use mathlib.Core.Logic.{⊎_elim}
use mathlib.Core.Bool.{Bool, true, false, ◌&&◌}
use mathlib.Core.List.{List, [], ◌∷◌, map, tail}
use Prim.Native.Nat.{ℕ, zero, suc, ◌+◌, ◌-◌, ◌≤◌, ◌<◌}
use native.Mathlib.Numerals.{add-one, lt_of_le_of_ne}
use native.Mathlib.Omega.{arith}
use lib.ListN.{length, get_or, set, replicate, take, length-set, length-replicate, length-map}
use lib.Seq.{get_or-set_same, get_or-set_other, ext_get_or}
use Rattle.std.specs.Prelude.{Option, slice_get, unwrap_or}
use Rattle.std.proofs.lemmas.Bool.{cases_eq, cases_lt}
use Rattle.std.proofs.lemmas.Option.{unwrap_or-slice_get}
use Rattle.std.proofs.lemmas.List.{get_or-take, length-take-le}
use Rattle.rules.specs.Base.{when}
use Rattle.stacks.specs.Stack.{stack, Kept}
-- for fmt_switch and table_blocks
pub use Rattle.std.proofs.lemmas.Bool.{cases_eq as same_or}

pub tail_map : {A B : Type 0} (f : A → B) (l : List A) → map f (tail l) ≡ tail (map f l)
tail_map f [] = refl
tail_map f (x ∷ xs) = refl

-- where not both hold, a rule that needs both leaves what it is given
pub unless_both : {A : Type 0} (a b : Bool) (f : A → A) (x : A) → (a && b) ≡ false → (b ≡ false → f x ≡ x) → when a f x ≡ x
unfolding when
unless_both true b f x e h = h e
unless_both false b f x e h = refl

module _ {A : Type 0} (z : A) where
  pub length-stack : (n : ℕ) (a : List A) → length (stack z n a) ≡ n
  length-stack zero a = refl
  length-stack (suc n) a = ap suc (length-stack n a)

  -- a store at or above the count leaves the stack
  pub stack_set : (m n : ℕ) (a : List A) (v : A) → m ≤ n → stack z m (set a n v) ≡ stack z m a
  stack_set zero n a v h = refl
  stack_set (suc m) n a v h = rw (get_or-set_other a n m v z (λ e. omega arith), stack_set m n a v (omega arith))

  pub stack_push : (n : ℕ) (a : List A) (v : A) → n < length a → stack z (n + 1) (set a n v) ≡ v ∷ stack z n a
  stack_push n a v h = rw (add-one, get_or-set_same a n v z h, stack_set n n a v (omega arith))

  pub stack-pop : (n : ℕ) (a : List A) → (n ≡ 0 → ⊥) → stack z n a ≡ get_or a (n - 1) z ∷ stack z (n - 1) a
  stack-pop zero a h = absurd (h refl)
  stack-pop (suc n) a h = let e : suc n - 1 ≡ n = omega arith in rw e

  -- the last of the first n elements is on top
  pub top_is : (n : ℕ) (a : List A) (o : Option A) (r : A) → n ≤ length a → o ≡ slice_get (take n a) (length (take n a) - 1) → r ≡ unwrap_or o z → r ≡ get_or (stack z n a) 0 z
  top_is n a o r h eo er = rw (er, eo, unwrap_or-slice_get (take n a) (length (take n a) - 1) z, length-take-le n a h) (go n)
    where
      go : (m : ℕ) → get_or (take m a) (m - 1) z ≡ get_or (stack z m a) 0 z
      go zero = refl
      go (suc m) = let e : suc m - 1 ≡ m = omega arith in rw (e, get_or-take (suc m) a m z (omega arith))

  pub tail_stack : (n : ℕ) (a : List A) → tail (stack z n a) ≡ stack z (n - 1) a
  tail_stack zero a = refl
  tail_stack (suc n) a = let e : suc n - 1 ≡ n = omega arith in rw e

  -- ---- what is kept: nothing, and by a push, a new top and a pop

  all_same : (n i : ℕ) → get_or (replicate n z) i z ≡ z
  all_same zero i = refl
  all_same (suc n) zero = refl
  all_same (suc n) (suc i) = all_same n i

  pub kept-none : (cap : ℕ) → Kept z cap 0 (replicate cap z)
  kept-none cap = record { within = omega arith; long = length-replicate cap z; above = λ i h. all_same cap i }

  pub every-same : (P : A → Type 0) (cap : ℕ) → P z → (i : ℕ) → P (get_or (replicate cap z) i z)
  every-same P cap p i = rw (all_same cap i) p

  pub kept_push : {cap n : ℕ} {a : List A} (v : A) → n < cap → Kept z cap n a → Kept z cap (n + 1) (set a n v)
  kept_push {cap} {n} {a} v h k =
      record {
        within = omega arith;
        long = length-set a n v ∙ k.long;
        above = λ i g. get_or-set_other a n i v z (λ e. omega arith) ∙ k.above i (omega arith);
      }

  pub kept_put : {cap n : ℕ} {a : List A} (v : A) → (n ≡ 0 → ⊥) → Kept z cap n a → Kept z cap n (set a (n - 1) v)
  kept_put {cap} {n} {a} v h k =
      record {
        within = k.within;
        long = length-set a (n - 1) v ∙ k.long;
        above = λ i g. get_or-set_other a (n - 1) i v z (λ e. omega arith) ∙ k.above i g;
      }

  -- nought is popped to nought
  pub kept-pop : {cap n : ℕ} {a : List A} → 0 < cap → Kept z cap n a → Kept z cap (n - 1) (set a (n - 1) z)
  kept-pop {cap} {n} {a} h k =
      let w = k.within in
      let l = k.long in
      record {
        within = omega arith;
        long = length-set a (n - 1) z ∙ k.long;
        above =
            λ i g.
            ⊎_elim
            (λ (e : i ≡ n - 1). rw e (get_or-set_same a (n - 1) z z (omega arith)))
            (λ (e : i ≡ n - 1 → ⊥).
            let m : n - 1 < i = lt_of_le_of_ne g (λ q. e (sym q)) in
            get_or-set_other a (n - 1) i z z e ∙ k.above i (omega arith))
            (cases_eq i (n - 1));
      }

  pub stack-popped : (n : ℕ) (a : List A) → stack z (n - 1) (set a (n - 1) z) ≡ tail (stack z n a)
  stack-popped n a = stack_set (n - 1) (n - 1) a z (omega arith) ∙ sym (tail_stack n a)

  pub stack-put : (n : ℕ) (a : List A) (v : A) → (n ≡ 0 → ⊥) → n ≤ length a → stack z n (set a (n - 1) v) ≡ v ∷ tail (stack z n a)
  stack-put zero a v h l = absurd (h refl)
  stack-put (suc n) a v h l =
      let e : suc n - 1 ≡ n = omega arith in
      rw (e, get_or-set_same a n v z l, stack_set n n a v (omega arith))

  -- a stack is kept in one way alone
  equal_below : (n : ℕ) (a b : List A) → stack z n a ≡ stack z n b → (i : ℕ) → i < n → get_or a i z ≡ get_or b i z
  equal_below zero a b e i h = absurd (omega arith)
  equal_below (suc n) a b e i h =
      ⊎_elim
      (λ (q : i ≡ n). rw q (cc))
      (λ (q : i ≡ n → ⊥). equal_below n a b (cc) i (lt_of_le_of_ne (omega arith) q))
      (cases_eq i n)

  pub kept-one : {cap n : ℕ} {a b : List A} → Kept z cap n a → Kept z cap n b → stack z n a ≡ stack z n b → a ≡ b
  kept-one {cap} {n} {a} {b} k m e =
      ext_get_or z a b (k.long ∙ sym m.long)
      (λ i h.
      ⊎_elim
      (λ (q : i < n). equal_below n a b e i q)
      (λ (q : n ≤ i). k.above i q ∙ sym (m.above i q))
      (cases_lt i n))

  -- ---- what holds of every element

  pub every_set : (P : A → Type 0) (a : List A) (n : ℕ) (v : A) → n < length a → P v → ((i : ℕ) → P (get_or a i z)) → (i : ℕ) → P (get_or (set a n v) i z)
  every_set P a n v h p every i =
      ⊎_elim
      (λ (q : i ≡ n). rw (q, get_or-set_same a n v z h) p)
      (λ (q : i ≡ n → ⊥). rw (get_or-set_other a n i v z q) (every i))
      (cases_eq i n)

  -- ---- two arrays are one where their stacks are, f telling apart elements of which P holds

  module _ {B : Type 0} (f : A → B) (P : A → Type 0) (apart : (x y : A) → P x → P y → f x ≡ f y → x ≡ y) where
    stack-one : (n : ℕ) (a b : List A) → ((i : ℕ) → P (get_or a i z)) → ((i : ℕ) → P (get_or b i z)) → map f (stack z n a) ≡ map f (stack z n b) → stack z n a ≡ stack z n b
    stack-one zero a b p q e = refl
    stack-one (suc n) a b p q e =
        let x : get_or a n z ≡ get_or b n z = apart (get_or a n z) (get_or b n z) (p n) (q n) (cc) in
        let y : stack z n a ≡ stack z n b = stack-one n a b p q (cc) in
        cc

    pub same_count : (m n : ℕ) (a b : List A) → map f (stack z m a) ≡ map f (stack z n b) → m ≡ n
    same_count m n a b e =
        sym (length-stack m a) ∙ sym (length-map (stack z m a) f) ∙ ap length e ∙ length-map (stack z n b) f ∙ length-stack n b

    pub same-array : {cap m n : ℕ} {a b : List A} → Kept z cap m a → Kept z cap n b → ((i : ℕ) → P (get_or a i z)) → ((i : ℕ) → P (get_or b i z)) → map f (stack z m a) ≡ map f (stack z n b) → a ≡ b
    same-array {cap} {m} {n} {a} {b} k l p q e =
        let h : m ≡ n = same_count m n a b e in
        kept-one k (rw (← h) at l) (stack-one m a b p q (rw (← h) at e))
