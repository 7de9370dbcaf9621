-- The trim at both ends of a text of items, and what is left of it without the values. Assumes nothing.
use mathlib.Core.Path.{◌≡◌, refl, sym, ap, ◌∙◌}
use mathlib.Core.Bool.{Bool, true, false}
use Rattle.std.specs.Prelude.{Option, None, Some, if◌then◌else◌}
use mathlib.Core.List.{List, [], ◌∷◌, ◌++◌, map, map-map, append_assoc, append-nil}
use Prim.Native.Nat.{ℕ, ◌+◌, ◌-◌, ◌≤◌, min}
use native.Mathlib.Omega.{arith}
use lib.ListN.{length, take, drop, length-append}
use lib.Seq.{take-append_seam, drop-append_seam, drop-append-add}
use Rattle.rules.specs.Text.{is_white, trim_start, trim_end, trimmed}
use Rattle.rules.specs.Rows.{Row, between, clip, shift, trim_row}
use Rattle.rules.proofs.Strip.{white-true}
use Rattle.unmoved.specs.Unmoved.{firm, removed, left}
use Rattle.unmoved.proofs.Items.{Item, byte, hole, pick, bytes_on, expand, firm-ends, pick-firm, trim, expand-trim, Spot, spots_of, spots-trim, Within, within_all}

-- ---- without the values

-- the bytes that both sheets show
abbrev pub plain : List Item → List ℕ
plain [] = []
plain (byte c ∷ m) = plain m ++ c ∷ []
plain (hole v w f g ∷ m) = plain m

-- the stretches at these spots are removed, the last of them first
abbrev left_by : List Spot → List ℕ → List ℕ
left_by [] b = b
left_by (h ∷ hs) b = left_by hs (take h.start b ++ drop (h.start + h.len) b)

cut_out : (a u z : List ℕ) → take (length a) (a ++ u ++ z) ++ drop (length a + length u) (a ++ u ++ z) ≡ a ++ z
cut_out a u z = rw (append_assoc a u z, take-append_seam a (u ++ z), drop-append-add a (u ++ z) (length u), drop-append_seam u z)

left-plain : (i : Bool) (m : List Item) (z : List ℕ) → left_by (spots_of i m) (expand i m ++ z) ≡ plain m ++ z
left-plain i [] z = refl
left-plain i (byte c ∷ m) z = rw (append_assoc (expand i m) (c ∷ []) z, append_assoc (plain m) (c ∷ []) z) (left-plain i m (c ∷ z))
left-plain i (hole v w f g ∷ m) z = ap (left_by (spots_of i m)) (cut_out (expand i m) (pick i v w) z) ∙ left-plain i m z

left-all : (i : Bool) (m : List Item) → left_by (spots_of i m) (expand i m) ≡ plain m
left-all i m = ap (left_by (spots_of i m)) (sym (append-nil (expand i m))) ∙ left-plain i m [] ∙ append-nil (plain m)

-- ---- white bytes at the start

-- a value keeps its last byte
pub firm-start : (v : List ℕ) → firm v ≡ true → firm (trim_start is_white v) ≡ true
unfolding firm
firm-start [] h = h
firm-start (x ∷ []) h = go (is_white x) refl
  where
    go : (b : Bool) → is_white x ≡ b → firm (if b then [] else x ∷ []) ≡ true
    go true e = rw (white-true x e) at h
    go false e = h
firm-start (x ∷ y ∷ ys) h = go (is_white x) (firm-start (y ∷ ys) h)
  where
    go : (b : Bool) → firm (trim_start is_white (y ∷ ys)) ≡ true → firm (if b then trim_start is_white (y ∷ ys) else x ∷ y ∷ ys) ≡ true
    go true ih = ih
    go false ih = h

-- x behind a text that is trimmed at its start
abbrev pub lead_cons : Item → List Item → List Item
lead_cons x (y ∷ m) = x ∷ y ∷ m
lead_cons (byte c) [] = if is_white c then [] else byte c ∷ []
lead_cons (hole v w f g) [] = hole (trim_start is_white v) (trim_start is_white w) (firm-start v f) (firm-start w g) ∷ []

abbrev pub lead : List Item → List Item
lead [] = []
lead (x ∷ m) = lead_cons x (lead m)

-- y behind a list, t being y trimmed at its start
abbrev joined : List ℕ → List ℕ → List ℕ → List ℕ
joined [] t y = t
joined (c ∷ cs) t y = c ∷ cs ++ y

start-append : (p : ℕ → Bool) (a y : List ℕ) → trim_start p (a ++ y) ≡ joined (trim_start p a) (trim_start p y) y
start-append p [] y = refl
start-append p (x ∷ a) y = go (p x) (start-append p a y)
  where
    go : (b : Bool) → trim_start p (a ++ y) ≡ joined (trim_start p a) (trim_start p y) y → (if b then trim_start p (a ++ y) else x ∷ a ++ y) ≡ joined (if b then trim_start p a else x ∷ a) (trim_start p y) y
    go true ih = ih
    go false ih = refl

joined-full : (a t y : List ℕ) → 1 ≤ length a → joined a t y ≡ a ++ y
joined-full [] t y h = absurd (omega arith)
joined-full (c ∷ cs) t y h = refl

item_full : (i : Bool) (x : Item) → 1 ≤ length (bytes_on i x)
item_full i (byte c) = omega arith
item_full i (hole v w f g) = let r = firm-ends (pick i v w) (pick-firm i v w f g) in rw r.whole (simp length-append (omega arith))

expand-lead : (i : Bool) (m : List Item) → trim_start is_white (expand i m) ≡ expand i (lead m)
expand-lead i [] = refl
expand-lead i (x ∷ m) = start-append is_white (expand i m) (bytes_on i x) ∙ rw (expand-lead i m) (go (lead m) x)
  where
    white-or : (b : Bool) (c : ℕ) → (if b then [] else c ∷ []) ≡ expand i (if b then [] else byte c ∷ [])
    white-or true c = refl
    white-or false c = refl

    value : (j : Bool) (v w : List ℕ) → trim_start is_white (pick j v w) ≡ pick j (trim_start is_white v) (trim_start is_white w)
    value true v w = refl
    value false v w = refl

    go : (n : List Item) (x : Item) → joined (expand i n) (trim_start is_white (bytes_on i x)) (bytes_on i x) ≡ expand i (lead_cons x n)
    go [] (byte c) = white-or (is_white c) c
    go [] (hole v w f g) = value i v w
    go (y ∷ n) x = joined-full (expand i (y ∷ n)) (trim_start is_white (bytes_on i x)) (bytes_on i x) (let h = item_full i y in simp length-append (omega arith))

-- n bytes go from the start of the text
abbrev shifted : ℕ → Spot → Spot
shifted n h = record { start = h.start - n; len = h.start + h.len - n - (h.start - n) }

spot_same : {a b c d : ℕ} → a ≡ c → b ≡ d → ◌≡◌ {A = Spot} (record { start = a; len = b }) (record { start = c; len = d })
spot_same e f = rw (e, f)

moved_on : (n d a k : ℕ) → n + d ≡ a → ◌≡◌ {A = Spot} (record { start = d; len = k }) (shifted n (record { start = a; len = k }))
moved_on n d a k h = spot_same (omega arith) (omega arith)

-- the first value has lost k - j bytes, and all before it is gone
moved-first : (n a j k : ℕ) → j ≤ k → n + j ≡ a + k → ◌≡◌ {A = Spot} (record { start = 0; len = j }) (shifted n (record { start = a; len = k }))
moved-first n a j k l h = spot_same (omega arith) (omega arith)

map-none : (f : Spot → Spot) (hs : List Spot) → [] ≡ map f hs → hs ≡ []
map-none f [] e = refl
map-none f (h ∷ hs) e = cc

start-short : (v : List ℕ) → length (trim_start is_white v) ≤ length v
start-short [] = omega arith
start-short (x ∷ v) = go (is_white x) (start-short v)
  where
    go : (b : Bool) → length (trim_start is_white v) ≤ length v → length (if b then trim_start is_white v else x ∷ v) ≤ length (x ∷ v)
    go true ih = omega arith
    go false ih = omega arith

same-tail : (n : ℕ) (a d u : List ℕ) → n + length (d ++ u) ≡ length (a ++ u) → n + length d ≡ length a
same-tail n a d u h = omega (arith, length-append d u, length-append a u)

spots-lead : (i : Bool) (m : List Item) (n : ℕ) → n + length (expand i (lead m)) ≡ length (expand i m) → spots_of i (lead m) ≡ map (shifted n) (spots_of i m)
spots-lead i [] n h = refl
spots-lead i (x ∷ m) n h = go (lead m) x (λ k. spots-lead i m k) h
  where
    none-there : (b : Bool) (c : ℕ) → spots_of i (if b then [] else byte c ∷ []) ≡ []
    none-there true c = refl
    none-there false c = refl

    short : (j : Bool) (v w : List ℕ) → length (pick j (trim_start is_white v) (trim_start is_white w)) ≤ length (pick j v w)
    short true v w = start-short v
    short false v w = start-short w

    go : (l : List Item) (x : Item) → ((k : ℕ) → k + length (expand i l) ≡ length (expand i m) → spots_of i l ≡ map (shifted k) (spots_of i m)) → n + length (expand i (lead_cons x l)) ≡ length (expand i (x ∷ m)) → spots_of i (lead_cons x l) ≡ map (shifted n) (spots_of i (x ∷ m))
    go [] (byte c) ih h = none-there (is_white c) c ∙ rw (map-none (shifted (length (expand i m))) (spots_of i m) (ih (length (expand i m)) (omega arith)))
    go [] (hole v w f g) ih h =
        rw (map-none (shifted (length (expand i m))) (spots_of i m) (ih (length (expand i m)) (omega arith)))
        (ap (λ (x : Spot). x ∷ []) (moved-first n (length (expand i m)) (length (pick i (trim_start is_white v) (trim_start is_white w))) (length (pick i v w)) (short i v w) (h ∙ length-append (expand i m) (pick i v w))))
    go (y ∷ l) (byte c) ih h = ih n (same-tail n (expand i m) (expand i (y ∷ l)) (c ∷ []) h)
    go (y ∷ l) (hole v w f g) ih h =
        let k = same-tail n (expand i m) (expand i (y ∷ l)) (pick i v w) h in
        rw (ih n k) (ap (λ (x : Spot). x ∷ map (shifted n) (spots_of i m)) (moved_on n (length (expand i (y ∷ l))) (length (expand i m)) (length (pick i v w)) k))

-- ---- rows

-- a row that has an entry stands at a spot
abbrev pub spotted : Option ℕ → Spot → List Spot → List Spot
spotted None h hs = hs
spotted (Some n) h hs = h ∷ hs

abbrev pub spot_in : Row → List Spot → List Spot
spot_in r hs = spotted r.entry (record { start = r.start; len = r.len }) hs

abbrev pub spots : List Row → List Spot
spots [] = []
spots (r ∷ rs) = spot_in r (spots rs)

left_by_lem : (rs : List Row) (b : List ℕ) → left rs b ≡ left_by (spots rs) b
unfolding left removed
left_by_lem [] b = refl
left_by_lem (r ∷ rs) b = go r.entry (λ c. left_by_lem rs c)
  where
    go : (o : Option ℕ) → ((c : List ℕ) → left rs c ≡ left_by (spots rs) c) → left rs (removed o r b) ≡ left_by (spotted o (record { start = r.start; len = r.len }) (spots rs)) b
    go None ih = ih b
    go (Some n) ih = ih (take r.start b ++ drop (r.start + r.len) b)

-- a cut past all of them moves none
pub spots-clip : (n : ℕ) (rs : List Row) → Within n (spots rs) → spots (map (clip n) rs) ≡ spots rs
unfolding clip between
spots-clip n [] h = refl
spots-clip n (r ∷ rs) h = go r.entry (λ k. spots-clip n rs k) h
  where
    go : (o : Option ℕ) → (Within n (spots rs) → spots (map (clip n) rs) ≡ spots rs) → Within n (spotted o (record { start = r.start; len = r.len }) (spots rs))
        → spotted o (record { start = min n r.start; len = min n (r.start + r.len) - min n r.start }) (spots (map (clip n) rs)) ≡ spotted o (record { start = r.start; len = r.len }) (spots rs)
    go None ih h = ih h
    go (Some x) ih h = let k = h.0 in rw (ih h.1) (ap (λ (s : Spot). s ∷ spots rs) (spot_same (omega arith) (omega arith)))

spots-shift : (n : ℕ) (rs : List Row) → spots (map (shift n) rs) ≡ map (shifted n) (spots rs)
unfolding shift between
spots-shift n [] = refl
spots-shift n (r ∷ rs) = go r.entry (spots-shift n rs)
  where
    go : (o : Option ℕ) → spots (map (shift n) rs) ≡ map (shifted n) (spots rs)
        → spotted o (record { start = r.start - n; len = r.start + r.len - n - (r.start - n) }) (spots (map (shift n) rs)) ≡ map (shifted n) (spotted o (record { start = r.start; len = r.len }) (spots rs))
    go None ih = ih
    go (Some x) ih = rw ih

-- ---- the end of a run

trim-spots : (i : Bool) (m : List Item) → spots_of i (trim is_white m) ≡ spots_of i m
trim-spots i m = ap (spots_of i) (sym (append-nil (trim is_white m))) ∙ spots-trim is_white i m [] ∙ ap (spots_of i) (append-nil m)

-- what is left is the bytes that both sheets show
pub left-trimmed : (i : Bool) (m : List Item) (rs : List Row) → spots_of i m ≡ spots rs → left (map (trim_row (expand i m)) rs) (trimmed (expand i m)) ≡ plain (lead (trim is_white m))
unfolding trimmed trim_row
left-trimmed i m rs h =
    let n : List Item = trim is_white m in
    let c : List ℕ = trim_end is_white (expand i m) in
    let d : List ℕ = trim_start is_white c in
    let k : ℕ = length c - length d in
    let cut : c ≡ expand i n = expand-trim is_white white-true i m in
    let done : d ≡ expand i (lead n) = rw cut (expand-lead i n) in
    let here : spots rs ≡ spots_of i n = sym (trim-spots i m ∙ h) in
    let in_c : Within (length c) (spots rs) = rw (cut, here) (within_all i n) in
    let lost : k + length (expand i (lead n)) ≡ length (expand i n) = rw (← done, ← cut) (let l = start-short c in omega arith) in
    let there : spots (map (trim_row (expand i m)) rs) ≡ spots_of i (lead n) =
    ap spots (sym (map-map (shift k) (clip (length c)) rs)) ∙ spots-shift k (map (clip (length c)) rs) ∙ rw (spots-clip (length c) rs in_c, here) (sym (spots-lead i n k lost))
    in
    left_by_lem (map (trim_row (expand i m)) rs) d ∙ ap (λ (hs : List Spot). left_by hs d) there ∙ ap (left_by (spots_of i (lead n))) done ∙ left-all i (lead n)
