-- Two results that stand for the same stacks are one. Assumes nothing.
use mathlib.Core.Path.{◌≡◌, refl, sym, ap, ◌∙◌}
use mathlib.Core.Bool.{Bool}
use Rattle.std.specs.Prelude.{Option}
use mathlib.Core.List.{List, [], ◌∷◌, map}
use Prim.Native.Nat.{ℕ, zero, suc, ◌≤◌}
use native.Mathlib.Omega.{arith}
use Rattle.rules.specs.declared.SpanInfo.{SpanInfo}
use Rattle.rules.specs.Indentation.{Indentation, PreviousTokens, Closed, unfolded}
use Rattle.stacks.proofs.StackLaws.{same_count, same-array}
use Rattle.indentation.specs.declared.Previous.{Previous}
use Rattle.indentation.specs.declared.Indentation.{Indentation as Code}
use Rattle.indentation.specs.declared.Closed.{Closed as CodeClosed}
use Rattle.indentation.specs.Of.{type_of, word_of, top_span, top_of, previous_of, no_previous, entry_for, types_of, indentation_of, Told, Stands, StandsClosed}

-- ---- one entry

one-kind : (x y : ℕ) → x ≤ 2 → y ≤ 2 → type_of x ≡ type_of y → x ≡ y
unfolding type_of
one-kind zero zero p q e = refl
one-kind zero (suc zero) p q e = cc
one-kind zero (suc (suc y)) p q e = cc
one-kind (suc zero) zero p q e = cc
one-kind (suc zero) (suc zero) p q e = refl
one-kind (suc zero) (suc (suc y)) p q e = cc
one-kind (suc (suc x)) zero p q e = cc
one-kind (suc (suc x)) (suc zero) p q e = cc
one-kind (suc (suc x)) (suc (suc y)) p q e = omega arith

one_word : (x y : ℕ) → word_of x ≡ word_of y → x ≡ y
unfolding word_of
one_word zero zero e = refl
one_word zero (suc y) e = cc
one_word (suc x) zero e = cc
one_word (suc x) (suc y) e = let z : x ≡ y = cc in omega arith

one-previous : (x y : Previous) → Told x → Told y → previous_of x ≡ previous_of y → x ≡ y
unfolding previous_of
one-previous x y p q e =
    let t : top_of x.marks (top_span x) ≡ top_of y.marks (top_span y) = ap (λ (v : PreviousTokens ℕ). v.top_level_reserved) e in
    let w : x.word ≡ y.word = one_word x.word y.word (ap (λ (v : PreviousTokens ℕ). v.reserved) e) in
    p ∙ ap (λ (v : Option SpanInfo). entry_for v x.word) t ∙ ap (entry_for (top_of y.marks (top_span y))) w ∙ sym q

-- ---- the stacks

map-itself : (l : List ℕ) → map (λ x. x) l ≡ l
map-itself [] = refl
map-itself (x ∷ xs) = ap (λ (l : List ℕ). x ∷ l) (map-itself xs)

pub stands_one : (w : Indentation ℕ) (r q : Code) → Stands w r → Stands w q → r ≡ q
unfolding indentation_of types_of
stands_one w r q s t =
    let e : indentation_of r ≡ indentation_of q = s.is ∙ sym t.is in
    let k = ap (λ (d : Indentation ℕ). d.indent_types) e in
    let m = map-itself _ ∙ ap (λ (d : Indentation ℕ). d.top_level_span) e ∙ sym (map-itself _) in
    let p = ap (λ (d : Indentation ℕ). d.previous) e in
    let c = s.clean in
    let d = t.clean in
    let nk = same_count 0 type_of (λ x. x ≤ 2) one-kind r.nkinds q.nkinds r.kinds q.kinds k in
    let ak = same-array 0 type_of (λ x. x ≤ 2) one-kind c.kinds d.kinds c.known d.known k in
    let ns = same_count 0 (λ x. x) (λ x. Unit {0}) (λ x y u v h. h) r.nspans q.nspans r.spans q.spans m in
    let an = same-array 0 (λ x. x) (λ x. Unit {0}) (λ x y u v h. h) c.spans d.spans (λ i. tt) (λ i. tt) m in
    let np = same_count no_previous previous_of Told one-previous r.nprevious q.nprevious r.previous q.previous p in
    let ar = same-array no_previous previous_of Told one-previous c.previous d.previous c.told d.told p in
    let nl : r.level ≡ q.level = c.counted ∙ ap unfolded k ∙ sym d.counted in
    let z : mk r.kinds r.nkinds r.spans r.nspans r.previous r.nprevious r.level ≡ mk q.kinds q.nkinds q.spans q.nspans q.previous q.nprevious q.level = cc in
    z
  where
    mk : List ℕ → ℕ → List ℕ → ℕ → List Previous → ℕ → ℕ → Code
    mk k nk s ns p np level = record { kinds = k; nkinds = nk; spans = s; nspans = ns; previous = p; nprevious = np; level = level }

-- ---- a closed block, and what is told of the last words

pub closed-one : (w : Closed ℕ) (r q : CodeClosed) → StandsClosed w r → StandsClosed w q → r ≡ q
closed-one w r q s t =
    let f : r.folded ≡ q.folded = s.folded ∙ sym t.folded in
    let l : r.left ≡ q.left = stands_one w.left r.left q.left s.left t.left in
    let z : mk r.folded r.left ≡ mk q.folded q.left = cc in
    z
  where
    mk : Bool → Code → CodeClosed
    mk f l = record { folded = f; left = l }

-- the contracts of `reserved` and `top_level_reserved` leave one result
pub word-one : (w : ℕ) (r q : Option ℕ) → r ≡ word_of w → q ≡ word_of w → r ≡ q
word-one w r q d e = d ∙ sym e

pub top_one : (p : Previous) (r q : Option SpanInfo) → r ≡ top_of p.marks (top_span p) → q ≡ top_of p.marks (top_span p) → r ≡ q
top_one p r q d e = d ∙ sym e
