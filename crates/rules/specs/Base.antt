-- Tests and choices that the rules share.
use Rattle.std.specs.Prelude.{if◌then◌else◌, Bool, true, false, ◌&&◌, ◌||◌, List, [], ◌∷◌, ℕ, zero, suc, eqb, leb, length, Option, None, Some, unwrap_or}

infixl 20 ◌▹◌
-- a value, then what is done to it: rules read from left to right, as the code runs
abbrev pub ◌▹◌ {ℓ κ} : {A : Type ℓ} {B : Type κ} → A → (A → B) → B
◌▹◌ a f = f a

-- f where b holds, else g; f where b holds
unfoldable pub choose : {A : Type 0} → Bool → (A → A) → (A → A) → A → A
choose b f g a = if b then f a else g a

unfoldable pub when : {A : Type 0} → Bool → (A → A) → A → A
when b f a = if b then f a else a

-- two values are the same
abbrev pub same : List ℕ → List ℕ → Bool
same [] [] = true
same [] (y ∷ ys) = false
same (x ∷ xs) [] = false
same (x ∷ xs) (y ∷ ys) = eqb x y && same xs ys

abbrev pub any_of {ℓ} : {A : Type ℓ} → (A → Bool) → List A → Bool
any_of p [] = false
any_of p (x ∷ xs) = p x || any_of p xs

-- the first element with p
abbrev pub first : {A : Type 0} → (A → Bool) → List A → Option A
first p [] = None
first p (x ∷ xs) = if p x then Some x else first p xs

-- the number of the first element with p, counted from n
abbrev pub find : {A : Type 0} → (A → Bool) → ℕ → List A → Option ℕ
find p n [] = None
find p n (x ∷ xs) = if p x then Some n else find p (suc n) xs

abbrev pub head? : {A : Type 0} → List A → Option A
head? [] = None
head? (x ∷ xs) = Some x

abbrev pub nth? : {A : Type 0} → List A → ℕ → Option A
nth? [] n = None
nth? (x ∷ xs) zero = Some x
nth? (x ∷ xs) (suc n) = nth? xs n

-- there is one, and p holds of it
abbrev pub holds : {A : Type 0} → (A → Bool) → Option A → Bool
holds p None = false
holds p (Some a) = p a

-- `unwrap_or(0)` of a limit
abbrev pub or_zero : Option ℕ → ℕ
or_zero l = unwrap_or l 0

-- the indent stack holds 128 entries
unfoldable pub full {ℓ} : {A : Type ℓ} → List A → Bool
full l = leb 128 (length l)
