-- How long what the rules cut and write is: never longer than what it is made of, but for indents. Assumes nothing.
use mathlib.Core.Path.{◌≡◌, refl, ap}
use mathlib.Core.Bool.{Bool, true, false}
use mathlib.Core.List.{List, [], ◌∷◌, ◌++◌, tail, map}
use Prim.Native.Nat.{ℕ, zero, suc, ◌+◌, ◌*◌, ◌≤◌}
use native.Mathlib.Omega.{arith}
use native.Mathlib.Nat.{suc-mul, mul-le-mul_right}
use lib.Dec.{eqb, leb}
use lib.ListN.{length, replicate, length-append}
use borrow.Author.Tests.{leb-false}
use Rattle.rules.specs.declared.Indent.{Indent}
use Rattle.rules.specs.declared.Indent.TheVariants as indent
use Rattle.rules.specs.declared.IndentType.{IndentType}
use Rattle.rules.specs.declared.IndentType.TheVariants.{Top, Block, FoldedBlock}
use Rattle.rules.specs.Base.{full}
use Rattle.std.specs.Prelude.{if◌then◌else◌}
use Rattle.rules.specs.Sheet.{Env}
use Rattle.rules.specs.Text.{is_blank, is_white, trim_start, trim_cons, trim_end, blank_before, squeeze, equalize_whitespace, lead_line, indent_comment, indent_of, trimmed, line_feeds}
use Rattle.rules.specs.Indentation.{Indentation, PreviousTokens, unfolded, pop_top, pop_block}
use Rattle.rules.specs.Formatter.{format_reserved_word}
use Rattle.rules.specs.Room.{full_indent}

-- ---- what is cut and joined

pub length-trim_start : (p : ℕ → Bool) (v : List ℕ) → length (trim_start p v) ≤ length v
length-trim_start p [] = omega arith
length-trim_start p (x ∷ xs) = go (p x) (length-trim_start p xs)
  where
    go : (b : Bool) → length (trim_start p xs) ≤ length xs → length (if b then trim_start p xs else x ∷ xs) ≤ length (x ∷ xs)
    go true h = omega arith
    go false h = omega arith

length-trim_cons : (p : ℕ → Bool) (x : ℕ) (v : List ℕ) → length (trim_cons p x v) ≤ suc (length v)
length-trim_cons p x [] = go (p x)
  where
    go : (b : Bool) → length (if b then [] else x ∷ []) ≤ 1
    go true = omega arith
    go false = omega arith
length-trim_cons p x (y ∷ ys) = omega arith

pub length-trim_end : (p : ℕ → Bool) (v : List ℕ) → length (trim_end p v) ≤ length v
length-trim_end p [] = omega arith
length-trim_end p (x ∷ xs) =
    let h = length-trim_end p xs in
    let k = length-trim_cons p x (trim_end p xs) in
    omega arith

pub length-trimmed : (v : List ℕ) → length (trimmed v) ≤ length v
unfolding trimmed
length-trimmed v =
    let h = length-trim_end is_white v in
    let k = length-trim_start is_white (trim_end is_white v) in
    omega arith

length-blank_before : (v : List ℕ) → length (blank_before v) ≤ suc (length v)
length-blank_before [] = omega arith
length-blank_before (y ∷ ys) = go (eqb y 32)
  where
    go : (b : Bool) → length (if b then y ∷ ys else 32 ∷ y ∷ ys) ≤ suc (length (y ∷ ys))
    go true = omega arith
    go false = omega arith

length-squeeze : (v : List ℕ) → length (squeeze v) ≤ length v
length-squeeze [] = omega arith
length-squeeze (x ∷ xs) = go (is_white x) (length-squeeze xs) (length-blank_before (squeeze xs))
  where
    go : (b : Bool) → length (squeeze xs) ≤ length xs → length (blank_before (squeeze xs)) ≤ suc (length (squeeze xs)) → length (if b then blank_before (squeeze xs) else x ∷ squeeze xs) ≤ length (x ∷ xs)
    go true h k = omega arith
    go false h k = omega arith

pub length-joined : (v : List ℕ) → length (equalize_whitespace v) ≤ length v
length-joined v =
    let h = length-squeeze v in
    let k = length-trim_start is_white (squeeze v) in
    omega arith

length-map : (f : ℕ → ℕ) (v : List ℕ) → length (map f v) ≡ length v
length-map f [] = refl
length-map f (x ∷ xs) = ap suc (length-map f xs)

pub length-word : (e : Env) (v : List ℕ) → length (format_reserved_word e v) ≡ length v
unfolding format_reserved_word
length-word e v = length-map _ v

pub length-reserved : (e : Env) (v : List ℕ) → length (equalize_whitespace (format_reserved_word e v)) ≤ length v
length-reserved e v =
    let h = length-joined (format_reserved_word e v) in
    let l = length-word e v in
    omega arith

pub length-replicate : (n x : ℕ) → length (replicate n x) ≡ n
length-replicate zero x = refl
length-replicate (suc n) x = ap suc (length-replicate n x)

length-lead_line : (ind v : List ℕ) → length (lead_line ind v) ≤ length ind + length v
length-lead_line ind [] = omega arith
length-lead_line ind (y ∷ ys) = go (is_blank y)
  where
    go : (b : Bool) → length (if b then ind ++ 32 ∷ trim_start is_blank ys else y ∷ ys) ≤ length ind + length (y ∷ ys)
    go true =
        let h = length-append ind (32 ∷ trim_start is_blank ys) in
        let k = length-trim_start is_blank ys in
        omega arith
    go false = omega arith

-- an indent for each line feed
pub length-indent_comment : (ind v : List ℕ) → length (indent_comment ind v) ≤ length v + line_feeds v * length ind
length-indent_comment ind [] = omega arith
length-indent_comment ind (x ∷ xs) = go (eqb x 10) (length-indent_comment ind xs)
  where
    go : (b : Bool) → length (indent_comment ind xs) ≤ length xs + line_feeds xs * length ind
        → length (x ∷ (if b then lead_line ind (indent_comment ind xs) else indent_comment ind xs)) ≤ length (x ∷ xs) + (if b then suc (line_feeds xs) else line_feeds xs) * length ind
    go true h =
        let k = length-lead_line ind (indent_comment ind xs) in
        let m = suc-mul (line_feeds xs) (length ind) in
        omega arith
    go false h = omega arith

-- ---- an indent

pub length-indent : (i : Indent) (level : ℕ) → level ≤ 128 → length (indent_of i level) ≤ full_indent i
unfolding indent_of full_indent
length-indent (indent.Spaces n) level h = let k = length-replicate (level * n) 32 in let m = mul-le-mul_right n h in omega arith
length-indent indent.Tabs level h = let k = length-replicate level 9 in omega arith

-- ---- the stack

pub unfolded-few : (ts : List IndentType) → unfolded ts ≤ length ts
unfolding unfolded
unfolded-few [] = omega arith
unfolded-few (Top ∷ ts) = let h = unfolded-few ts in omega arith
unfolded-few (Block ∷ ts) = let h = unfolded-few ts in omega arith
unfolded-few (FoldedBlock ∷ ts) = let h = unfolded-few ts in omega arith

-- an entry is pushed on a stack that is not full
pub under-full : (ts : List IndentType) (i j : Indentation (List ℕ)) (t : IndentType) → length ts ≤ 128 → i.indent_types ≡ ts → j.indent_types ≡ t ∷ ts → length (if full ts then i else j).indent_types ≤ 128
unfolding full
under-full ts i j t d e f = go (leb 128 (length ts)) refl
  where
    go : (b : Bool) → leb 128 (length ts) ≡ b → length (if b then i else j).indent_types ≤ 128
    go true g = rw e d
    go false g = rw f (let h = leb-false 128 (length ts) g in omega arith)

pub pop-top : (ts : List IndentType) (i : Indentation (List ℕ)) → i.indent_types ≡ ts → length (pop_top ts i).indent_types ≤ length ts
unfolding pop_top
pop-top [] i e = rw e (omega arith)
pop-top (Top ∷ ts) i e = omega arith
pop-top (Block ∷ ts) i e = rw e (omega arith)
pop-top (FoldedBlock ∷ ts) i e = rw e (omega arith)

pub pop-block : (ts : List IndentType) (sp : List ℕ) (pr : List (PreviousTokens (List ℕ))) → length (pop_block ts sp pr).left.indent_types ≤ length ts
unfolding pop_block
pop-block [] sp pr = omega arith
pop-block (Top ∷ ts) sp pr = let h = pop-block ts (tail sp) (tail pr) in omega arith
pop-block (Block ∷ ts) sp pr = omega arith
pop-block (FoldedBlock ∷ ts) sp pr = omega arith
