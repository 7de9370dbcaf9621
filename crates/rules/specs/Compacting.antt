-- Sheets with what compacting writes, as one table under one claim: the words before the bodies, and the bodies.
use Rattle.std.specs.Prelude.{◌≡◌, refl, List, [], ◌∷◌, ◌++◌, map, ℕ}
use Prim.Native.String.{String}
use Rattle.rules.specs.Bytes.{bytes}
use Rattle.rules.specs.Words.{words_bytes}
use Rattle.rules.specs.Sheets.{default, ample}
use Rattle.rules.specs.Compacted.{Written, wrote, refusal, starts_place, covered_by, kept_bytes, new_bytes, moved_words, compacted, compact_as, compact}
use Rattle.rules.specs.Computed.{computed}

-- a sheet, a buffer's length, and what is due
pub record Compaction : Type 0 where
  pub sheet : List ℕ
  pub room : ℕ
  pub wanted : Written

-- words 0 to 4, the words of the records, and the bodies
abbrev of : List ℕ → List ℕ → String → List ℕ
of counts records body = words_bytes (counts ++ default ++ records) ++ bytes body

-- n tokens alone
abbrev tokens : ℕ → ℕ → List ℕ → String → List ℕ
tokens n b records body = of (n ∷ 0 ∷ 0 ∷ b ∷ 0 ∷ []) records body

-- a Word without a key
abbrev W : ℕ → ℕ → List ℕ
W start len = 15 ∷ start ∷ len ∷ 0 ∷ 0 ∷ []

abbrev becomes : List ℕ → List ℕ → Compaction
becomes s t = record { sheet = s; room = ample; wanted = wrote t }

-- gaps, overlaps, a place of length 0
abbrev pub gaps : List Compaction
gaps =
    becomes (tokens 1 3 (W 2 1) "zbz") (tokens 1 1 (W 0 1) "z")
    ∷ becomes (tokens 1 3 (W 1 1) "zbz") (tokens 1 1 (W 0 1) "b")
    ∷ becomes (tokens 2 6 (W 0 3 ++ W 2 3) "abcdef") (tokens 2 5 (W 0 3 ++ W 2 3) "abcde")
    ∷ becomes (tokens 2 3 (W 0 3 ++ W 3 0) "abc") (tokens 2 3 (W 0 3 ++ W 0 0) "abc")
    ∷ becomes (tokens 3 7 (W 5 2 ++ W 1 2 ++ W 4 0) "_ab__cd") (tokens 3 4 (W 2 2 ++ W 0 2 ++ W 0 0) "abcd")
    ∷ becomes (tokens 0 3 [] "abc") (tokens 0 0 [] "")
    ∷ []

-- a name is a place on any kind; a number is none
abbrev pub keyed : List Compaction
keyed =
    becomes (tokens 1 4 (47 ∷ 3 ∷ 1 ∷ 1 ∷ 1 ∷ []) "_n_v") (tokens 1 2 (47 ∷ 1 ∷ 1 ∷ 0 ∷ 1 ∷ []) "nv")
    ∷ becomes (tokens 1 3 (79 ∷ 2 ∷ 1 ∷ 1 ∷ 0 ∷ []) "__v") (tokens 1 1 (79 ∷ 0 ∷ 1 ∷ 1 ∷ 0 ∷ []) "v")
    ∷ becomes (tokens 1 3 (111 ∷ 2 ∷ 1 ∷ 2 ∷ 0 ∷ []) "__v") (tokens 1 1 (111 ∷ 0 ∷ 1 ∷ 2 ∷ 0 ∷ []) "v")
    ∷ []

-- parameters and keep words
abbrev pub recorded : List Compaction
recorded =
    becomes (of (0 ∷ 2 ∷ 1 ∷ 6 ∷ 2 ∷ []) (1 ∷ 1 ∷ 3 ∷ 1 ∷ 2 ∷ 0 ∷ 5 ∷ 1 ∷ 4 ∷ 1 ∷ []) "_n_vkw") (of (0 ∷ 2 ∷ 1 ∷ 4 ∷ 2 ∷ []) (0 ∷ 1 ∷ 1 ∷ 1 ∷ 0 ∷ 0 ∷ 3 ∷ 1 ∷ 2 ∷ 1 ∷ []) "nvkw")
    ∷ becomes (of (0 ∷ 1 ∷ 0 ∷ 3 ∷ 1 ∷ []) (0 ∷ 0 ∷ 2 ∷ 1 ∷ []) "__v") (of (0 ∷ 1 ∷ 0 ∷ 1 ∷ 1 ∷ []) (0 ∷ 0 ∷ 0 ∷ 1 ∷ []) "v")
    ∷ []

-- 11 exactly where the buffer is shorter than the new sheet; 1 to 4 come first
abbrev pub refusals : List Compaction
refusals =
    record { sheet = tokens 1 3 (W 1 1) "zbz"; room = 69; wanted = wrote (tokens 1 1 (W 0 1) "b") }
    ∷ record { sheet = tokens 1 3 (W 1 1) "zbz"; room = 68; wanted = refusal 11 0 }
    ∷ record { sheet = tokens 1 3 (W 1 3) "zbz"; room = 0; wanted = refusal 3 52 }
    ∷ record { sheet = []; room = 0; wanted = refusal 1 0 }
    ∷ []

abbrev pub compactions : List Compaction
compactions = gaps ++ keyed ++ recorded ++ refusals

abbrev given : Compaction → Written
given r = compact r.sheet r.room

abbrev wanted : Compaction → Written
wanted r = r.wanted

pub compactions-right : map given compactions ≡ map wanted compactions
unfolding computed starts_place covered_by kept_bytes new_bytes moved_words compacted compact_as compact
compactions-right = refl
