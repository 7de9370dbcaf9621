-- A sheet's bytes for what it should say: values and names one after another in the bodies. For tables of sheets.
use Rattle.std.specs.Prelude.{List, [], ◌∷◌, ◌++◌, ℕ, ◌+◌, length}
use Rattle.rules.specs.Tokens.{Key, absent, named, zero_indexed, one_indexed, Token, kind_no}
use Rattle.rules.specs.Words.{words_bytes, packed_of}
use Rattle.rules.specs.Sheet.{Param, QueryParams, NoParams, Indexed, Named}

-- the words of each record, its body starting at `at`; and the bodies
abbrev pub records_from : {A : Type 0} → (ℕ → A → List ℕ) → (A → List ℕ) → ℕ → List A → List ℕ
records_from words body at [] = []
records_from words body at (x ∷ xs) = words at x ++ records_from words body (at + length (body x)) xs

abbrev pub bodies : {A : Type 0} → (A → List ℕ) → List A → List ℕ
bodies body [] = []
bodies body (x ∷ xs) = body x ++ bodies body xs

-- ---- tokens

abbrev pub class_of : Key → ℕ
class_of absent = 0
class_of (named n) = 1
class_of (zero_indexed n) = 2
class_of (one_indexed n) = 3

abbrev pub name_in : Key → List ℕ
name_in absent = []
name_in (named n) = n
name_in (zero_indexed n) = []
name_in (one_indexed n) = []

abbrev pub key_words : ℕ → Key → List ℕ
key_words at absent = 0 ∷ 0 ∷ []
key_words at (named n) = at ∷ length n ∷ []
key_words at (zero_indexed n) = n.0 ∷ 0 ∷ []
key_words at (one_indexed n) = n.0 ∷ 0 ∷ []

abbrev pub token_body : Token → List ℕ
token_body t = t.value ++ name_in t.key

abbrev pub token_record : ℕ → Token → List ℕ
token_record at t =
    packed_of (kind_no t.kind) (class_of t.key) t.create ∷ at ∷ length t.value ∷ key_words (at + length t.value) t.key

-- ---- parameters

abbrev pub mode_no : QueryParams → ℕ
mode_no NoParams = 0
mode_no (Indexed vs) = 1
mode_no (Named ps) = 2

abbrev pub param_count : QueryParams → ℕ
param_count NoParams = 0
param_count (Indexed vs) = length vs
param_count (Named ps) = length ps

abbrev pub itself : List ℕ → List ℕ
itself v = v

abbrev pub param_body : Param → List ℕ
param_body p = p.name ++ p.value

abbrev pub param_bodies : QueryParams → List ℕ
param_bodies NoParams = []
param_bodies (Indexed vs) = bodies itself vs
param_bodies (Named ps) = bodies param_body ps

abbrev pub param_records : ℕ → QueryParams → List ℕ
param_records at NoParams = []
param_records at (Indexed vs) = records_from (λ n v. 0 ∷ 0 ∷ n ∷ length v ∷ []) itself at vs
param_records at (Named ps) =
    records_from (λ n p. n ∷ length p.name ∷ (n + length p.name) ∷ length p.value ∷ []) param_body at ps

-- ---- the sheet; options are words 5 to 11

unfoldable pub encode : List ℕ → QueryParams → List (List ℕ) → List Token → List ℕ
encode options ps keep ts =
    let token_bytes = bodies token_body ts in
    let param_bytes = param_bodies ps in
    let body = token_bytes ++ param_bytes ++ bodies itself keep in
    let keep_at = length token_bytes + length param_bytes in
    words_bytes ((length ts ∷ param_count ps ∷ length keep ∷ length body ∷ mode_no ps ∷ [])
    ++ options
    ++ records_from token_record token_body 0 ts
    ++ param_records (length token_bytes) ps
    ++ records_from (λ n v. n ∷ length v ∷ []) itself keep_at keep)
    ++ body
