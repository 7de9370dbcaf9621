-- Laws of begin, refuse and append: the needs of a function that writes behind the text. Assumes nothing.
use mathlib.Core.Path.{◌≡◌, refl, sym, ap, ◌∙◌}
use mathlib.Core.List.{List, [], ◌∷◌, append-nil}
use Prim.Native.Nat.{ℕ, ◌+◌, ◌-◌, ◌*◌, ◌^◌, ◌≤◌, ◌<◌}
use native.Mathlib.Nat.{add-zero, sub-zero, mul-le-mul, lt_of_le_of_lt, le_of_lt}
use native.Mathlib.Omega.{arith}
use lib.ListN.{length, take, set, replicate, length-replicate, drop_of_length-le}
use lib.Seq.{length-take-le, drop-drop}
use borrow.Author.Tests.{le-leb, lt-leb}
use Rattle.rules.specs.declared.Indent.{Indent}
use Rattle.rules.specs.declared.Indent.TheVariants as indent
use Rattle.rules.specs.Text.{Text, fits, append, refuse, indent_of}
use Rattle.text.specs.declared.Text.{Text as Code}
use Rattle.text.specs.Put.{put}
use Rattle.text.specs.Held.{text_of, Held, Laid}
use Rattle.text.proofs.PutLaws.{put-nil, put-snoc, length-put, take_put, drop-put, drop-replicate}
use Rattle.text.proofs.HeldLaws.{text-fits, text-refused, only-fault, laid, relaid}

cleared : (d d' : List ℕ) → d' ≡ put d 0 (replicate (length d) 0) → d' ≡ replicate (length d) 0
unfolding put
cleared d d' e =
    let y : List ℕ = replicate (length d) 0 in
    let l : length y ≡ length d = length-replicate (length d) 0 in
    let g : length d ≤ 0 + length y = omega arith in
    e ∙ rw (drop_of_length-le d g) (append-nil _)

held-cleared : (d d' : List ℕ) (f : ℕ) → d' ≡ replicate (length d) 0 → Held (record { len = 0; floor = 0; low = 0; fault = f }) d'
held-cleared d d' f e =
    let m : length d' ≡ length d = ap length e ∙ length-replicate (length d) 0 in
    record { within = omega arith; floored = omega arith; lowest = omega arith; zeros = e ∙ rw (m, sub-zero); empty = λ q. refl }

pub by-begin : (d d' : List ℕ) → d' ≡ put d 0 (replicate (length d) 0) → Laid (length d) (fits 0 0 []) (record { len = 0; floor = 0; low = 0; fault = 0 }) d'
by-begin d d' e =
    let f = cleared d d' e in
    laid _ _ _ d' (ap length f ∙ length-replicate (length d) 0) (held-cleared d d' 0 f) (text-fits _ d' refl)

recoded : {cap : ℕ} {w : Text} {t u : Code} {d : List ℕ} → t ≡ u → Laid cap w t d → Laid cap w u d
recoded e p = rw (← e) p

module _ (t : Code) (d : List ℕ) (h : Held t d) where
  -- ---- a refused text is handed on

  pub kept-refused : (n : ℕ) → (t.fault ≡ 0 → ⊥) → Laid (length d) (refuse n (text_of t d)) (record { len = 0; floor = 0; low = 0; fault = t.fault }) d
  kept-refused n z = recoded (only-fault t d h z) (laid _ _ t d refl h (rw (text-refused t d z)))

  pub kept_append : (p : List ℕ) → (t.fault ≡ 0 → ⊥) → Laid (length d) (append (length d) p (text_of t d)) (record { len = 0; floor = 0; low = 0; fault = t.fault }) d
  kept_append p z = recoded (only-fault t d h z) (laid _ _ t d refl h (rw (text-refused t d z)))

  -- ---- a refusal

  pub by-refuse : (n : ℕ) (d' : List ℕ) → t.fault ≡ 0 → 0 < n → d' ≡ put d 0 (replicate (length d) 0)
      → Laid (length d) (refuse n (text_of t d)) (record { len = 0; floor = 0; low = 0; fault = n }) d'
  by-refuse n d' z k e =
      let f = cleared d d' e in
      laid _ _ _ d' (ap length f ∙ length-replicate (length d) 0) (held-cleared d d' n f)
      (text-refused _ d' (λ q. omega arith) ∙ sym (rw (text-fits t d z)))

  -- ---- an append

  pub by-full : (p r : List ℕ) (u : Code) → t.fault ≡ 0 → length d - t.len < length p → Laid (length d) (refuse 9 (text_of t d)) u r
      → Laid (length d) (append (length d) p (text_of t d)) u r
  by-full p r u z k q =
      let l = length-take-le t.len d h.within in
      let o : length d < length (take t.len d) + length p = let w = h.within in omega arith in
      relaid refl (rw (text-fits t d z, lt-leb _ _ o)) q

  by-put : (p d' : List ℕ) → t.fault ≡ 0 → t.len + length p ≤ length d → d' ≡ put d t.len p
      → Laid (length d) (append (length d) p (text_of t d)) (record { len = t.len + length p; floor = t.floor; low = t.low; fault = 0 }) d'
  by-put p d' z k e =
      let n : ℕ = t.len + length p in
      let w : t.len ≤ length d = h.within in
      let l = length-take-le t.len d w in
      let o : length (take t.len d) + length p ≤ length d = omega arith in
      let m : length d' ≡ length d = ap length e ∙ length-put d t.len p k in
      let a : length d - t.len - length p ≡ length d - n = omega arith in
      laid _ _ _ d' m
      (record {
        within = omega arith;
        floored = let g = h.floored in omega arith;
        lowest = let g = h.lowest in omega arith;
        zeros =
            rw (e, drop-put d t.len p w, length-put d t.len p k, ← a, ← drop-drop (length p) t.len d, h.zeros)
            (drop-replicate (length p) (length d - t.len) 0);
        empty = λ q. absurd (q refl);
      })
      (text-fits _ d' refl ∙ rw (e, take_put d t.len p w, text-fits t d z, le-leb _ _ o))

  -- p of n bytes was written behind the text
  pub by-put-of : (p d' : List ℕ) (n : ℕ) → length p ≡ n → t.fault ≡ 0 → n ≤ length d - t.len → d' ≡ put d t.len p
      → Laid (length d) (append (length d) p (text_of t d)) (record { len = t.len + n; floor = t.floor; low = t.low; fault = 0 }) d'
  by-put-of p d' n e z k f = let w = h.within in rw (← e) (by-put p d' z (omega arith) f)

  pub by_byte : (b : ℕ) → t.fault ≡ 0 → 1 ≤ length d - t.len
      → Laid (length d) (append (length d) (b ∷ []) (text_of t d)) (record { len = t.len + 1; floor = t.floor; low = t.low; fault = 0 }) (set d t.len b)
  by_byte b z k =
      let w = h.within in
      let s = put-snoc d t.len [] b (omega arith) in
      let f : set d t.len b ≡ put d t.len (b ∷ []) = cc (put-nil d t.len, add-zero t.len) in
      by-put-of (b ∷ []) (set d t.len b) 1 refl z k f

-- ---- an indent

pub by-spaces : {cap : ℕ} (w : Text) (u : Code) (r : List ℕ) (i : Indent) (n m level : ℕ) → i ≡ indent.Spaces n → m ≡ n
    → Laid cap (append cap (replicate (level * m) 32) w) u r → Laid cap (append cap (indent_of i level) w) u r
unfolding indent_of
by-spaces w u r i n m level e f q = rw (e, ← f) q

pub by-tabs : {cap : ℕ} (w : Text) (u : Code) (r : List ℕ) (i : Indent) (level : ℕ) → i ≡ indent.Tabs
    → Laid cap (append cap (replicate level 9) w) u r → Laid cap (append cap (indent_of i level) w) u r
unfolding indent_of
by-tabs w u r i level e q = rw e q

-- the blanks of an indent are few
pub few : (level n : ℕ) → level ≤ 128 → n < 256 → level * n < 2 ^ 64
few level n h k = lt_of_le_of_lt (mul-le-mul h (le_of_lt k)) (omega arith)
