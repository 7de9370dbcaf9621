-- The pairs of specs/Apart.antt, computed from the sheets' bytes: where one premise fails the end fails too, and where all hold it holds.
use Rattle.std.specs.Prelude.{◌≡◌, refl, true, false, List, [], ◌∷◌, map, ℕ}
use Rattle.std.proofs.Common.{sym, ap, ◌∙◌, eq-eqb}
use Rattle.std.proofs.lemmas.Bool.{false≢true}
use Rattle.std.proofs.lemmas.Simd.{map-map}
use Rattle.rules.specs.Base.{same}
use Rattle.rules.specs.Encode.{encode}
use Rattle.rules.specs.Rows.{Row, entry_word}
use Rattle.rules.specs.Computed.{computed, computed_list}
use Rattle.rows.specs.Listing.{start_at, len_at, entry_of, row_of, row_at, rows_in}
use Rattle.unmoved.specs.Unmoved.{shape, common_of, values, firm, all_firm, firm_in, called, rows_of, removed, left, left_of, Unmoved}
use Rattle.unmoved.specs.Apart.{Pair, Judged, told, one_of, other_of, judge, apart, wanted, together, AllMoved}

-- one premise fails, and so does the end
pub apart-judged : map judge apart ≡ wanted
unfolding computed computed_list encode common_of shape values firm all_firm firm_in called rows_of removed left left_of start_at len_at entry_of row_of row_at rows_in
apart-judged = refl

-- the premises can be met
pub together-judged : map judge together ≡ map (λ p. record { firm_one = true; firm_other = true; refusal_one = 0; refusal_other = 0; unmoved = true }) together
unfolding computed computed_list encode common_of shape values firm all_firm firm_in called rows_of removed left left_of start_at len_at entry_of row_of row_at rows_in
together-judged = refl

same-itself : (a : List ℕ) → same a a ≡ true
same-itself [] = refl
same-itself (x ∷ a) = rw (eq-eqb x x refl) (same-itself a)

told_same : (xs ys : List Row) → map (λ (x : Row). x.entry) xs ≡ map (λ (x : Row). x.entry) ys → map (λ (x : Row). entry_word x.entry) xs ≡ map (λ (x : Row). entry_word x.entry) ys
told_same xs ys e = sym (map-map entry_word (λ (x : Row). x.entry) xs) ∙ rw e (map-map entry_word (λ (x : Row). x.entry) ys)

moved : (p : Pair) → (judge p).unmoved ≡ false → Unmoved p.one p.other (one_of p) (other_of p) → ⊥
moved p h u =
    let e : told p.one (one_of p) ≡ told p.other (other_of p) = rw (u.tokens, told_same (rows_of p.one (one_of p)) (rows_of p.other (other_of p)) u.entries) in
    false≢true (sym h ∙ rw (u.bytes, e, same-itself (left_of p.other (other_of p)), same-itself (told p.other (other_of p))))

all_moved : (ps : List Pair) → map (λ (p : Pair). (judge p).unmoved) ps ≡ map (λ (p : Pair). false) ps → AllMoved ps
all_moved [] h = tt
all_moved (p ∷ ps) h = (moved p (cc), all_moved ps (cc))

-- none of them is as the theorem says
pub apart-moved : AllMoved apart
apart-moved = all_moved apart (ap (map (λ (j : Judged). j.unmoved)) apart-judged)
