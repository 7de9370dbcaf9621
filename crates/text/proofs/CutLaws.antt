-- Laws of a cut from the end, a byte at a time. Assumes nothing.
use mathlib.Core.Path.{◌≡◌, refl, sym, ap, ◌∙◌}
use mathlib.Core.Logic.{⊎_elim}
use mathlib.Core.Bool.{Bool, true, false}
use mathlib.Core.List.{List, [], ◌∷◌, ◌++◌, append_assoc, append-nil}
use Prim.Native.Nat.{ℕ, suc, ◌+◌, ◌-◌, ◌≤◌, ◌<◌, min}
use native.Mathlib.Nat.{le_of_lt, le-min, min-eq_left, min-eq_right, min-le_right}
use native.Mathlib.Omega.{arith}
use lib.ListN.{length, take, drop, set, get_or, length-set, length-append, length-take, take-append-drop, drop_of_length-le}
use lib.Seq.{length-take-le, take_all, take-suc, take-append-le, drop-append-le, take-set-le, set_split, drop_at}
use Rattle.std.specs.Prelude.{if◌then◌else◌}
use Rattle.rules.specs.Text.{Text, fits, trim_cons, trim_end, cut}
use Rattle.text.specs.declared.Text.{Text as Code}
use Rattle.text.specs.Held.{text_of, Held, Laid, cut_to}
use Rattle.text.proofs.HeldLaws.{zero_or, le_or, text-fits, text-refused, laid}

module _ (p : ℕ → Bool) where
  -- the bytes of p go from the end, down to the floor
  abbrev left : ℕ → List ℕ → List ℕ
  left f b = take f b ++ trim_end p (drop f b)

  length-trim_cons : (y : ℕ) (ys : List ℕ) → length (trim_cons p y ys) ≤ suc (length ys)
  length-trim_cons y [] = go (p y)
    where
      go : (b : Bool) → length (if b then [] else y ∷ []) ≤ 1
      go true = omega arith
      go false = omega arith
  length-trim_cons y (z ∷ zs) = omega arith

  length-trim_end : (l : List ℕ) → length (trim_end p l) ≤ length l
  length-trim_end [] = omega arith
  length-trim_end (y ∷ ys) =
      let a = length-trim_cons y (trim_end p ys) in
      let b = length-trim_end ys in
      omega arith

  -- a cut makes no text longer
  length-left : (f : ℕ) (b : List ℕ) → length (left f b) ≤ length b
  length-left f b =
      let l : length (left f b) ≡ length (take f b) + length (trim_end p (drop f b)) = length-append (take f b) (trim_end p (drop f b)) in
      let t = length-trim_end (drop f b) in
      let m : length (take f b) + length (drop f b) ≡ length b = sym (length-append (take f b) (drop f b)) ∙ ap length (take-append-drop f b) in
      omega arith

  trim_cons-snoc : (y : ℕ) (ys : List ℕ) (x : ℕ) → trim_cons p y (ys ++ x ∷ []) ≡ y ∷ (ys ++ x ∷ [])
  trim_cons-snoc y [] x = refl
  trim_cons-snoc y (z ∷ zs) x = refl

  trim_end-snoc : (l : List ℕ) (x : ℕ) → trim_end p (l ++ x ∷ []) ≡ if p x then trim_end p l else l ++ x ∷ []
  trim_end-snoc [] x = refl
  trim_end-snoc (y ∷ ys) x = ap (trim_cons p y) (trim_end-snoc ys x) ∙ go (p x)
    where
      go : (b : Bool) → trim_cons p y (if b then trim_end p ys else ys ++ x ∷ []) ≡ if b then trim_end p (y ∷ ys) else y ∷ (ys ++ x ∷ [])
      go true = refl
      go false = trim_cons-snoc y ys x

  -- the text of n bytes above the floor f, of which k is the last one's place
  module _ (f : ℕ) (d : List ℕ) (n k : ℕ) (s : n ≡ suc k) (w : n ≤ length d) (above : f ≤ k) where
    abbrev last : ℕ
    last = get_or d k 0

    above-take : f ≤ length (take k d)
    above-take = let l = length-take-le k d (omega arith) in omega arith

    split : left f (take n d) ≡ take f (take k d) ++ (if p last then trim_end p (drop f (take k d)) else drop f (take k d) ++ last ∷ [])
    split = rw (s, take-suc d k 0 (rw s at w), take-append-le f (take k d) (last ∷ []) above-take, drop-append-le f (take k d) (last ∷ []) above-take, trim_end-snoc)

    goes : p last ≡ true → left f (take k d) ≡ left f (take n d)
    goes e = rw (split, e)

    stays : p last ≡ false → take n d ≡ left f (take n d)
    stays e =
        rw (split, e, ← append_assoc, take-append-drop)
        (rw s (take-suc d k 0 (rw s at w)))

  -- nothing stands above the floor
  bare : (f n : ℕ) (d : List ℕ) → n ≤ f → take n d ≡ left f (take n d)
  bare f n d h =
      let l : length (take n d) ≤ f = let m = length-take n d in omega arith in
      rw (take_all f (take n d) l, drop_of_length-le (take n d) l) (sym (append-nil (take n d)))

-- of a text of l bytes or fewer the lowest length is the same, whether n bytes are counted or one less
low_same : (m n l : ℕ) → l ≤ n - 1 → min (min m (n - 1)) l ≡ min (min m n) l
low_same m n l h =
    ⊎_elim
    (λ (a : m ≤ n - 1). let b : m ≤ n = omega arith in rw (min-eq_left a, min-eq_left b))
    (λ (a : n - 1 < m). let b : n - 1 ≤ m = omega arith in rw (min-eq_right b) (min-eq_right h ∙ sym (min-eq_right (le-min (omega arith) (omega arith)))))
    (le_or m (n - 1))

pub by-low : (n g m f : ℕ) → m < n → ◌≡◌ {A = Code} (record { len = n; floor = g; low = m; fault = f }) (cut_to n g m f)
by-low n g m f h = ap (λ (j : ℕ). record { len = n; floor = g; low = j; fault = f }) (sym (min-eq_left (le_of_lt h)))

pub by-lower : (n g m f : ℕ) → n ≤ m → ◌≡◌ {A = Code} (record { len = n; floor = g; low = n; fault = f }) (cut_to n g m f)
by-lower n g m f h = ap (λ (j : ℕ). record { len = n; floor = g; low = j; fault = f }) (sym (min-eq_right h))

module _ (n g m f : ℕ) (d : List ℕ) where
  held_cut : Held (cut_to n g m f) d → g < n → Held (cut_to (n - 1) g m f) (set d (n - 1) 0)
  held_cut h k =
      let w : n ≤ length d = h.within in
      let x : n - 1 < length d = omega arith in
      let y : n - 1 ≤ length d = omega arith in
      let s : suc (n - 1) ≡ n = omega arith in
      let o : suc (length d - n) ≡ length d - (n - 1) = omega arith in
      let l : length (set d (n - 1) 0) ≡ length d = length-set d (n - 1) 0 in
      record {
        within = omega arith;
        floored = omega arith;
        lowest = min-le_right m (n - 1);
        zeros =
            ap (drop (n - 1)) (set_split d (n - 1) 0 x)
            ∙ drop_at (take (n - 1) d) (0 ∷ drop (suc (n - 1)) d) (n - 1) (length-take-le (n - 1) d y)
            ∙ rw (s, h.zeros, l, ← o);
        empty = λ q. let o = h.empty q in omega arith;
      }

  module _ (p : ℕ → Bool) where
    text-goes : Held (cut_to n g m f) d → g < n → p (get_or d (n - 1) 0) ≡ true
        → cut p (text_of (cut_to (n - 1) g m f) (set d (n - 1) 0)) ≡ cut p (text_of (cut_to n g m f) d)
    text-goes h k e =
        let w : n ≤ length d = h.within in
        let s : n ≡ suc (n - 1) = omega arith in
        let y : n - 1 ≤ n - 1 = omega arith in
        let v : length (left p g (take (n - 1) d)) ≤ n - 1 = let a = length-left p g (take (n - 1) d) in let b = length-take-le (n - 1) d (omega arith) in omega arith in
        ⊎_elim
        (λ (z : f ≡ 0).
        rw (text-fits (cut_to (n - 1) g m f) (set d (n - 1) 0) z, text-fits (cut_to n g m f) d z, take-set-le (n - 1) d (n - 1) 0 y, ← goes p g d n (n - 1) s w (omega arith) e)
        (ap (λ (j : ℕ). fits g j (left p g (take (n - 1) d))) (low_same m n (length (left p g (take (n - 1) d))) v)))
        (λ (z : f ≡ 0 → ⊥). rw (text-refused (cut_to (n - 1) g m f) (set d (n - 1) 0) z, text-refused (cut_to n g m f) d z))
        (zero_or f)

    text-stays : n ≤ length d → take n d ≡ left p g (take n d) → text_of (cut_to n g m f) d ≡ cut p (text_of (cut_to n g m f) d)
    text-stays w e =
        ⊎_elim
        (λ (z : f ≡ 0). rw (text-fits (cut_to n g m f) d z, ← e, length-take-le n d w) (ap (λ (j : ℕ). fits g j (take n d)) (sym (min-eq_left (min-le_right m n)))))
        (λ (z : f ≡ 0 → ⊥). rw (text-refused (cut_to n g m f) d z))
        (zero_or f)

-- ---- the loop

-- with the bytes of p cut from its end, the text of n bytes is w; m is what low was before the cut
pub record Cutting (cap : ℕ) (w : Text) (p : ℕ → Bool) (n g m f : ℕ) (d : List ℕ) : Type 0 where
  pub room : length d ≡ cap
  pub held : Held (cut_to n g m f) d
  pub left : cut p (text_of (cut_to n g m f) d) ≡ w

pub cut-starts : (p : ℕ → Bool) (t : Code) (d : List ℕ) → Held t d → Cutting (length d) (cut p (text_of t d)) p t.len t.floor t.low t.fault d
cut-starts p t d h =
    let e : min t.low t.len ≡ t.low = min-eq_left h.lowest in
    record { room = refl; held = rw e h; left = rw e }

module _ {cap : ℕ} {w : Text} {p : ℕ → Bool} {n g m f : ℕ} {d : List ℕ} (c : Cutting cap w p n g m f d) where
  module _ (b : Bool) (k : g < n) (e : b ≡ p (get_or d (n - 1) 0)) where
    pub cut-goes : b ≡ true → Cutting cap w p (n - 1) g m f (set d (n - 1) 0)
    cut-goes t =
        record { room = length-set d (n - 1) 0 ∙ c.room; held = held_cut n g m f d c.held k; left = text-goes n g m f d p c.held k (sym e ∙ t) ∙ c.left }

    pub cut-stops : (u : Code) → b ≡ false → u ≡ cut_to n g m f → Laid cap w u d
    cut-stops u t q =
        let s : n ≡ suc (n - 1) = omega arith in
        rw q (laid cap w _ d c.room c.held (text-stays n g m f d p c.held.within (stays p g d n (n - 1) s c.held.within (omega arith) (sym e ∙ t)) ∙ c.left))

  pub cut-ends : (u : Code) → n ≤ g → u ≡ cut_to n g m f → Laid cap w u d
  cut-ends u k q = rw q (laid cap w _ d c.room c.held (text-stays n g m f d p c.held.within (bare p g n d k) ∙ c.left))
