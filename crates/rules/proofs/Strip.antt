-- What the rules on bytes leave of a text without its white bytes. Assumes nothing.
use mathlib.Core.Path.{◌≡◌, refl, sym, ◌∙◌}
use mathlib.Core.Bool.{Bool, true, false, ◌&&◌, ◌||◌, false≢true}
use mathlib.Core.List.{List, [], ◌∷◌, ◌++◌}
use Prim.Native.Nat.{ℕ, zero, suc, ◌+◌, ◌-◌, ◌*◌, ◌≤◌}
use native.Mathlib.Omega.{arith}
use lib.Dec.{eqb, leb}
use lib.ListN.{replicate}
use borrow.Author.Tests.{eqb-true, leb-true}
use Rattle.rules.specs.declared.Indent.{Indent}
use Rattle.rules.specs.declared.Indent.TheVariants as indent
use Rattle.std.specs.Prelude.{if◌then◌else◌}
use Rattle.rules.specs.Text.{is_blank, is_white, trim_cons, trim_end, trim_start, blank_before, squeeze, equalize_whitespace, lead_line, indent_comment, indent_of, trimmed}
use Rattle.rules.specs.Due.{white, strip}

if-append : (b : Bool) (x y z : List ℕ) → (if b then x else y) ++ z ≡ if b then x ++ z else y ++ z
if-append true x y z = refl
if-append false x y z = refl

pub strip-append : (a b : List ℕ) → strip (a ++ b) ≡ strip a ++ strip b
strip-append [] b = refl
strip-append (x ∷ xs) b = rw (strip-append xs b) (sym (if-append (white x) (strip xs) (x ∷ strip xs) (strip b)))

-- ---- cutting: a byte that p takes is white

-- strip of one byte before a list that is trimmed
strip-trim_cons : (p : ℕ → Bool) → ((x : ℕ) → p x ≡ true → white x ≡ true) → (x : ℕ) (r : List ℕ) → strip (trim_cons p x r) ≡ strip (x ∷ r)
strip-trim_cons p w x (y ∷ ys) = refl
strip-trim_cons p w x [] = go (p x) refl
  where
    go : (b : Bool) → p x ≡ b → strip (if b then [] else x ∷ []) ≡ strip (x ∷ [])
    go true e = rw (w x e)
    go false e = refl

pub strip-trim_end : (p : ℕ → Bool) → ((x : ℕ) → p x ≡ true → white x ≡ true) → (l : List ℕ) → strip (trim_end p l) ≡ strip l
strip-trim_end p w [] = refl
strip-trim_end p w (x ∷ xs) = strip-trim_cons p w x (trim_end p xs) ∙ rw (strip-trim_end p w xs)

-- 9 to 13
white-near : (i : ℕ) → 9 + i ≤ 13 → white (9 + i) ≡ true
white-near zero h = refl
white-near (suc zero) h = refl
white-near (suc (suc zero)) h = refl
white-near (suc (suc (suc zero))) h = refl
white-near (suc (suc (suc (suc zero)))) h = refl
white-near (suc (suc (suc (suc (suc i))))) h = absurd (omega arith)

-- what the rules take for white is white
pub white-true : (x : ℕ) → is_white x ≡ true → white x ≡ true
white-true x h = go (eqb x 32) refl (leb 9 x) refl (leb x 13) refl h
  where
    go : (a : Bool) → eqb x 32 ≡ a → (b : Bool) → leb 9 x ≡ b → (c : Bool) → leb x 13 ≡ c → (a || (b && c)) ≡ true → white x ≡ true
    go true e b f c g h = rw (eqb-true x 32 e)
    go false e true f true g h =
        let low = leb-true 9 x f in
        let high = leb-true x 13 g in
        let n : x ≡ 9 + (x - 9) = omega arith in
        rw n (white-near (x - 9) (omega arith))
    go false e true f false g h = absurd (false≢true h)
    go false e false f c g h = absurd (false≢true h)

pub blank-white : (x : ℕ) → is_blank x ≡ true → white x ≡ true
blank-white x h = go (eqb x 32) refl h
  where
    go : (b : Bool) → eqb x 32 ≡ b → (b || eqb x 9) ≡ true → white x ≡ true
    go true e h = rw (eqb-true x 32 e)
    go false e h = rw (eqb-true x 9 h)

-- a byte before two lists that strip to the same
pub strip-cons : (x : ℕ) (q r : List ℕ) → strip q ≡ strip r → strip (x ∷ q) ≡ strip (x ∷ r)
strip-cons x q r e = rw e

pub strip-trim_start : (p : ℕ → Bool) → ((x : ℕ) → p x ≡ true → white x ≡ true) → (l : List ℕ) → strip (trim_start p l) ≡ strip l
strip-trim_start p w [] = refl
strip-trim_start p w (x ∷ xs) = go (p x) refl (strip-trim_start p w xs)
  where
    go : (b : Bool) → p x ≡ b → strip (trim_start p xs) ≡ strip xs → strip (if b then trim_start p xs else x ∷ xs) ≡ strip (x ∷ xs)
    go true e ih = rw (w x e) ih
    go false e ih = refl

strip-blank_before : (r : List ℕ) → strip (blank_before r) ≡ strip r
strip-blank_before [] = refl
strip-blank_before (y ∷ ys) = go (eqb y 32)
  where
    go : (b : Bool) → strip (if b then y ∷ ys else 32 ∷ y ∷ ys) ≡ strip (y ∷ ys)
    go true = refl
    go false = refl

strip-squeeze : (v : List ℕ) → strip (squeeze v) ≡ strip v
strip-squeeze [] = refl
strip-squeeze (x ∷ xs) = go (is_white x) refl (strip-squeeze xs)
  where
    go : (b : Bool) → is_white x ≡ b → strip (squeeze xs) ≡ strip xs → strip (if b then blank_before (squeeze xs) else x ∷ squeeze xs) ≡ strip (x ∷ xs)
    go true e ih = rw (white-true x e) (strip-blank_before (squeeze xs) ∙ ih)
    go false e ih = strip-cons x (squeeze xs) xs ih

pub strip-equalize : (v : List ℕ) → strip (equalize_whitespace v) ≡ strip v
strip-equalize v = strip-trim_start is_white white-true (squeeze v) ∙ strip-squeeze v

strip-lead_line : (ind r : List ℕ) → strip ind ≡ [] → strip (lead_line ind r) ≡ strip r
strip-lead_line ind [] w = refl
strip-lead_line ind (y ∷ ys) w = go (is_blank y) refl
  where
    go : (b : Bool) → is_blank y ≡ b → strip (if b then ind ++ 32 ∷ trim_start is_blank ys else y ∷ ys) ≡ strip (y ∷ ys)
    go true e = rw (strip-append ind (32 ∷ trim_start is_blank ys), w, blank-white y e) (strip-trim_start is_blank blank-white ys)
    go false e = refl

pub strip-indent_comment : (ind v : List ℕ) → strip ind ≡ [] → strip (indent_comment ind v) ≡ strip v
strip-indent_comment ind [] w = refl
strip-indent_comment ind (x ∷ xs) w = strip-cons x (if eqb x 10 then lead_line ind (indent_comment ind xs) else indent_comment ind xs) xs (go (eqb x 10) (strip-indent_comment ind xs w))
  where
    go : (b : Bool) → strip (indent_comment ind xs) ≡ strip xs → strip (if b then lead_line ind (indent_comment ind xs) else indent_comment ind xs) ≡ strip xs
    go true ih = strip-lead_line ind (indent_comment ind xs) w ∙ ih
    go false ih = ih

-- ---- indents and the final trim

pub strip-replicate : (n c : ℕ) → white c ≡ true → strip (replicate n c) ≡ []
strip-replicate zero c w = refl
strip-replicate (suc n) c w = rw (w, strip-replicate n c w)

pub strip-indent : (i : Indent) (n : ℕ) → strip (indent_of i n) ≡ []
unfolding indent_of
strip-indent (indent.Spaces k) n = strip-replicate (n * k) 32 refl
strip-indent indent.Tabs n = strip-replicate n 9 refl

pub strip-trimmed : (b : List ℕ) → strip (trimmed b) ≡ strip b
unfolding trimmed
strip-trimmed b = strip-trim_start is_white white-true (trim_end is_white b) ∙ strip-trim_end is_white white-true b
