-- Laws of a part put after all that stands before it. Assumes nothing.
use mathlib.Core.Path.{◌≡◌, refl, sym, ap, ◌∙◌}
use mathlib.Core.Logic.{◌⊎◌, ⊎_elim}
use mathlib.Core.Bool.{Bool, true, false}
use mathlib.Core.List.{List, [], ◌∷◌, ◌++◌}
use Prim.Native.Nat.{ℕ, suc, ◌+◌, ◌-◌, ◌*◌, ◌/◌, ◌%◌, ◌^◌, ◌≤◌, ◌<◌, max}
use native.Mathlib.Nat.{suc-mul, mul-le-mul_right}
use native.Mathlib.Numerals.{add-one}
use native.Mathlib.Omega.{arith}
use lib.Bits.{bit_and, and_mask}
use lib.Dec.{eqb}
use lib.ListN.{length, take, drop}
use lib.Seq.{take-take}
use Rattle.std.specs.Prelude.{if◌then◌else◌}
use Rattle.rules.specs.Text.{line_feeds}
use Rattle.rules.proofs.Short.{feeds-few}
use Rattle.ascii.specs.Part.{part, has, before}
use Rattle.ascii.proofs.PartLaws.{length_part, part-more}
use Rattle.columns.specs.declared.Measure.{Measure}
use Rattle.columns.specs.Measured.{count, measure}
use Rattle.columns.proofs.HeadLaws.{head_at, after, split, head-far, head-most, best_free, after-most, after-end}
use Rattle.columns.proofs.MeasureLaws.{Counted, none-counted, counted-on}
use Rattle.parts.specs.declared.Counted.{Counted as Counts}
use Rattle.parts.specs.Parts.{Told, counted_of}

-- ---- the first line

-- how many of its bytes stand before its first tab
abbrev plain : List ℕ → ℕ
plain v = before 9 (take (before 10 v) v)

-- without a tab it goes on by its bytes
head_plain : (v : List ℕ) (e : ℕ) → before 10 v ≤ plain v → head_at e v ≡ e + before 10 v
head_plain [] e h = omega arith
head_plain (x ∷ xs) e h = go (eqb x 10) (eqb x 9) refl refl (head_plain xs (suc e))
  where
    go : (f t : Bool) → eqb x 10 ≡ f → eqb x 9 ≡ t → (before 10 xs ≤ plain xs → head_at (suc e) xs ≡ suc e + before 10 xs) → head_at e (x ∷ xs) ≡ e + before 10 (x ∷ xs)
    go true t p q g = rw p (omega arith)
    go false true p q g = absurd (let k : suc (before 10 xs) ≤ 0 = rw (p, q) at h in omega arith)
    go false false p q g =
        let k : suc (before 10 xs) ≤ suc (plain xs) = rw (p, q) at h in
        let i = g (omega arith) in
        rw (p, q) (omega arith)

-- from its first tab on it moves by eights
head-tab : (v : List ℕ) (e d : ℕ) → plain v < before 10 v → head_at e v + 8 * ((d + plain v) / 8) ≡ head_at d v + 8 * ((e + plain v) / 8)
head-tab [] e d h = absurd (omega arith)
head-tab (x ∷ xs) e d h = go (eqb x 10) (eqb x 9) refl refl (head-tab xs (suc e) (suc d))
  where
    go : (f t : Bool) → eqb x 10 ≡ f → eqb x 9 ≡ t
        → (plain xs < before 10 xs → head_at (suc e) xs + 8 * ((suc d + plain xs) / 8) ≡ head_at (suc d) xs + 8 * ((suc e + plain xs) / 8))
        → head_at e (x ∷ xs) + 8 * ((d + plain (x ∷ xs)) / 8) ≡ head_at d (x ∷ xs) + 8 * ((e + plain (x ∷ xs)) / 8)
    go true t p q g = absurd (let k : before 10 (x ∷ xs) ≡ 0 = rw p in omega arith)
    go false true p q g =
        let z : (k : ℕ) → head_at ((k / 8 + 1) * 8) xs ≡ 8 * (k / 8 + 1) + head_at 0 xs =
        λ k. let a : (k / 8 + 1) * 8 ≡ 8 * (k / 8 + 1) + 0 = omega arith in ap (λ (i : ℕ). head_at i xs) a ∙ head-far (k / 8 + 1) 0 xs in
        let i = z e in
        let j = z d in
        rw (p, q) (omega arith)
    go false false p q g =
        let k : suc (plain xs) < suc (before 10 xs) = rw (p, q) at h in
        let i = g (omega arith) in
        rw (p, q) (omega arith)

-- and it ends no earlier where it starts further on
pub head-mono : (v : List ℕ) (a e : ℕ) → a ≤ e → head_at a v ≤ head_at e v
head-mono [] a e h = h
head-mono (x ∷ xs) a e h = go (eqb x 10) (eqb x 9) (head-mono xs)
  where
    go : (f t : Bool) → ((b c : ℕ) → b ≤ c → head_at b xs ≤ head_at c xs)
        → (if f then a else head_at (if f then 0 else if t then (a / 8 + 1) * 8 else suc a) xs) ≤ (if f then e else head_at (if f then 0 else if t then (e / 8 + 1) * 8 else suc e) xs)
    go true t g = h
    go false true g = g ((a / 8 + 1) * 8) ((e / 8 + 1) * 8) (omega arith)
    go false false g = g (suc a) (suc e) (omega arith)

-- ---- whether a line feed is there

no-feed : (v : List ℕ) → before 10 v ≡ length v → (has 10 10 v ≡ false) × ((after v).best ≡ 0)
no-feed [] h = (refl, refl)
no-feed (x ∷ xs) h = go (eqb x 10) refl (no-feed xs)
  where
    go : (f : Bool) → eqb x 10 ≡ f → (before 10 xs ≡ length xs → (has 10 10 xs ≡ false) × ((after xs).best ≡ 0)) → (has 10 10 (x ∷ xs) ≡ false) × ((after (x ∷ xs)).best ≡ 0)
    go true e g = absurd (let k : before 10 (x ∷ xs) ≡ 0 = rw e in omega arith)
    go false e g = let k : before 10 (x ∷ xs) ≡ suc (before 10 xs) = rw e in rw e (g (omega arith))

a_feed : (v : List ℕ) → before 10 v < length v → has 10 10 v ≡ true
a_feed [] h = absurd (omega arith)
a_feed (x ∷ xs) h = go (eqb x 10) refl (a_feed xs)
  where
    go : (f : Bool) → eqb x 10 ≡ f → (before 10 xs < length xs → has 10 10 xs ≡ true) → has 10 10 (x ∷ xs) ≡ true
    go true e g = rw e
    go false e g = let k : before 10 (x ∷ xs) ≡ suc (before 10 xs) = rw e in rw e (g (omega arith))

feedless : (v : List ℕ) → has 10 10 v ≡ false → before 10 v ≡ length v
feedless [] h = refl
feedless (x ∷ xs) h = go (eqb x 10) refl (feedless xs)
  where
    go : (f : Bool) → eqb x 10 ≡ f → (has 10 10 xs ≡ false → before 10 xs ≡ length xs) → before 10 (x ∷ xs) ≡ length (x ∷ xs)
    go true e g = absurd (let z : true ≡ false = rw e at h in let y : ◌≡◌ {A = ℕ} 0 1 = cc in omega arith)
    go false e g = rw e (ap suc (g (rw e at h)))

-- a column above the offset has met none
pub by_above : (d : List ℕ) (start n at : ℕ) → (start + n ≤ length d) × (n ≤ 4064) → at ≡ (measure (count 32768 32768) (part d start n)).at → 32768 ≤ at → (n ≡ before 10 (part d start n)) × (n ≤ n)
by_above d start n at q e h = go (has 10 10 (part d start n)) refl
  where
    go : (f : Bool) → has 10 10 (part d start n) ≡ f → (n ≡ before 10 (part d start n)) × (n ≤ n)
    go true z =
        let l = length_part d start n q.0 in
        let a = after-end (part d start n) z in
        let p = (split 32768 32768 (part d start n) (omega arith)).past z in
        absurd (omega (arith, q.1))
    go false z = (sym (length_part d start n q.0) ∙ sym (feedless (part d start n) z), omega arith)

-- ---- what is told of a part

pub same-measure : (a b : ℕ) (r : Measure) → a ≡ r.at → b ≡ r.best → record { at = a; best = b } ≡ r
same-measure a b r e f = rw (e, f)

module _ (v : List ℕ) (known at head best : ℕ) (s : length v ≤ 4064) (t : Told v known at head best) where
  pub told-head : head ≡ 32768 + head_at 0 v
  told-head =
      let m : head ≡ (measure (record { at = 32768; best = 32768 }) v).best = ap (λ (r : Measure). r.best) t.measured in
      let p = (split 32768 32768 v (omega arith)).most in
      let f = head-far 4096 0 v in
      let a = after-most v in
      omega arith

  told-best : max best known ≡ max known (max (head_at 0 v) (after v).best)
  told-best = let i = t.inner in let p = (split 0 known v (omega arith)).most in omega arith

  told-past : has 10 10 v ≡ true → at ≡ (after v).at
  told-past h = ap (λ (r : Measure). r.at) t.measured ∙ (split 32768 32768 v (omega arith)).past h

  told-offset : bit_and head 32767 ≡ head_at 0 v
  told-offset =
      let m = head-most 0 v in
      let e = told-head in
      and_mask head 15 ∙ (omega arith)

-- what is told where less is known is told where more is
pub told-known : (v : List ℕ) (k n at head best : ℕ) → k ≤ n → Told v k at head best → Told v n at head best
told-known v k n at head best h t =
    let i = t.inner in
    let p = (best_free 0 k v).1 in
    let q = (best_free 0 n v).1 in
    record { measured = t.measured; inner = omega (arith, i, p, q) }

max-out : (b h k : ℕ) → max b (max h k) ≡ max (max b k) h
max-out b h k = omega arith

max-over : (k n h : ℕ) → max (max k n) h ≡ max k (max n h)
max-over k n h = omega arith

max-under : (h₀ a h : ℕ) → h₀ ≤ h → max (max h₀ a) h ≡ max h a
max-under h₀ a h l = omega arith

-- the largest of a part, put after what stands before it
together : (best k h₀ h a : ℕ) → max best k ≡ max k (max h₀ a) → h₀ ≤ h → max best (max h k) ≡ max (max k h) a
together best k h₀ h a e l = max-out best h k ∙ ap (λ (n : ℕ). max n h) e ∙ max-over k (max h₀ a) h ∙ ap (max k) (max-under h₀ a h l) ∙ sym (max-over k h a)

-- ---- the part after all that stands before it

module _ (d : List ℕ) (start n : ℕ) (m : Measure) (at head best line tab end wide : ℕ) (q : (start + n ≤ length d) × (n ≤ 4064) × (m.at ≤ m.best)) (t : Told (part d start n) m.best at head best) (l : (line ≡ before 10 (part d start n)) × (line ≤ n)) (b : tab ≡ before 9 (part d start line))
    (c : ((tab < line) × (end ≡ bit_and head 32767 + ((m.at + tab) / 8 - tab / 8) * 8)) ⊎ ((line ≤ tab) × (end ≡ m.at + line))) (w : wide ≡ max end m.best) where
  v : List ℕ
  v = part d start n

  long : length v ≡ n
  unfolding v
  long = length_part d start n q.0

  short : length v ≤ 4064
  short = let e = long in let k = q.1 in omega arith

  tab_is : tab ≡ plain v
  unfolding v
  tab_is = b ∙ ap (before 9) (sym (take-take line n (drop start d) l.1)) ∙ ap (λ (k : ℕ). before 9 (take k v)) l.0

  -- where the first line ends
  end_is : end ≡ head_at m.at v
  unfolding v
  end_is =
      let f = l.0 in
      let e = tab_is in
      let o = told-offset v m.best at head best short t in
      ⊎_elim (λ g. let k = head-tab v m.at 0 (omega (arith, g.0)) in omega (arith, g.1)) (λ g. let k = head_plain v m.at (omega (arith, g.0)) in omega (arith, g.1)) c

  pub by_one_line : line ≡ n → record { at = end; best = wide } ≡ measure m (part d start n)
  unfolding v
  by_one_line z =
      let k = long in
      let f = l.0 in
      let e = end_is in
      let o = no-feed v (omega arith) in
      let p = split m.at m.best v q.2 in
      same-measure end wide (measure m v) (e ∙ sym (p.within o.0)) (omega (arith, p.most, o.1))

  pub by-more-lines : (line ≡ n → ⊥) → (r : ℕ) → r ≡ max best wide → record { at = at; best = r } ≡ measure m (part d start n)
  unfolding v
  by-more-lines z r g =
      let k = long in
      let e = end_is in
      let o = a_feed v (omega (arith, l.0, l.1)) in
      let p = split m.at m.best v q.2 in
      let j = told-best v m.best at head best short t in
      let i = head-mono v 0 m.at (omega arith) in
      let x : r ≡ max best (max (head_at m.at v) m.best) = g ∙ ap (max best) (w ∙ ap (λ (k : ℕ). max k m.best) e) in
      same-measure at r (measure m v) (told-past v m.best at head best short t o ∙ sym (p.past o)) (x ∙ together best m.best (head_at 0 v) (head_at m.at v) (after v).best j i ∙ sym p.most)

-- ---- line feeds

pub feeds-both : (v w : List ℕ) → line_feeds (v ++ w) ≡ line_feeds v + line_feeds w
feeds-both [] w = omega arith
feeds-both (x ∷ xs) w = go (eqb x 10) (feeds-both xs w)
  where
    go : (b : Bool) → line_feeds (xs ++ w) ≡ line_feeds xs + line_feeds w → (if b then suc (line_feeds (xs ++ w)) else line_feeds (xs ++ w)) ≡ (if b then suc (line_feeds xs) else line_feeds xs) + line_feeds w
    go true e = omega arith
    go false e = e

-- ---- the parts one after the other

-- a part lies within the text
pub past-part : (k far : ℕ) → k < 16 → k * far + far ≤ 16 * far
past-part k far h = let a = suc-mul k far in let b : suc k * far ≤ 16 * far = mul-le-mul_right far h in omega arith

module _ (d : List ℕ) (start far k : ℕ) (from m : Measure) (q : (start + 16 * far ≤ length d) × (far % 16 ≡ 0) × (far ≤ 4064)) (s : Counted d start (16 * far) from (k * far) m) where
  module _ (c : k < 16) where
    pub part-fits : start + k * far + far ≤ length d
    part-fits = let p = past-part k far c in omega (arith, q.0)

    pub part_room : from.at + 8 * (16 * far) < 2 ^ 63 → m.at + 8 * far < 2 ^ 63
    part_room h = let p = past-part k far c in omega (arith, s.narrow)

    pub parts_on : (r : Measure) → r ≡ measure m (part d (start + k * far) far) → Counted d start (16 * far) from ((k + 1) * far) r
    parts_on r e =
        let a : k * far + far ≡ (k + 1) * far = sym (rw (add-one k) (suc-mul k far)) in
        rw a at (counted-on d start (16 * far) from (k * far) m q.0 s far (past-part k far c) r e)

    -- and the line feeds
    pub feeds-on : (n f : ℕ) → n ≡ line_feeds (part d start (k * far)) → f ≡ line_feeds (part d (start + k * far) far) → n ≤ k * far → (f ≤ far) × (n + f ≡ line_feeds (part d start ((k + 1) * far))) × (n + f ≤ (k + 1) * far)
    feeds-on n f en ef l =
        let a : k * far + far ≡ (k + 1) * far = sym (rw (add-one k) (suc-mul k far)) in
        let b : f ≤ far = rw (← ef, length_part d (start + k * far) far part-fits) at (feeds-few (part d (start + k * far) far)) in
        let e : line_feeds (part d start (k * far + far)) ≡ line_feeds (part d start (k * far)) + line_feeds (part d (start + k * far) far) = ap line_feeds (part-more d start (k * far) far) ∙ feeds-both (part d start (k * far)) (part d (start + k * far) far) in
        let g : n + f ≡ line_feeds (part d start (k * far + far)) = omega (arith, e, en, ef) in
        (b, rw a at g, omega (arith, a, b, l))

-- what is known stays known
pub best_grows : (b : ℕ) (m r : Measure) (v : List ℕ) → b ≤ m.best → r ≡ measure m v → b ≤ r.best
best_grows b m r v h e = rw e (let f = (best_free m.at m.best v).1 in omega (arith, f))

-- the columns of what is counted
pub by-counted : (s : Counts) (from : Measure) (v : List ℕ) → s ≡ counted_of from v → s.columns ≡ measure from v
by-counted s from v e = rw e

-- the first bytes by parts, the others after them
pub by_first : (d : List ℕ) (start n k : ℕ) (from m : Measure) → start + n ≤ length d → from.at ≤ from.best → k ≤ n → m ≡ measure from (part d start k) → Counted d start n from k m
by_first d start n k from m h u c e =
    let y : start + 0 ≡ start = omega arith in
    let z : 0 + k ≡ k = omega arith in
    rw z at (counted-on d start n from 0 from h (none-counted d start n from u) k (omega arith) m (rw y e))
