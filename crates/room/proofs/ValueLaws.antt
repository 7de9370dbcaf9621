-- Laws of a value's line feeds, of the value `;`, and of what a value counts. Assumes nothing.
use mathlib.Core.Path.{◌≡◌, sym, ap, ◌∙◌}
use mathlib.Core.Bool.{Bool, true, false, and-true}
use mathlib.Core.List.{List, [], ◌∷◌}
use Prim.Native.Nat.{ℕ, suc, ◌+◌, ◌*◌, ◌≤◌, ◌<◌}
use native.Mathlib.Omega.{arith}
use mir.Val.{bool_byte}
use lib.Dec.{eqb}
use lib.ListN.{length, drop, get_or}
use Rattle.rules.specs.declared.Place.{Place}
use Rattle.rules.specs.declared.Counts.{Counts}
use Rattle.rules.specs.declared.FormatOptions.{FormatOptions}
use Rattle.rules.specs.Base.{same}
use Rattle.std.specs.Prelude.{if◌then◌else◌}
use Rattle.rules.specs.Text.{line_feeds}
use Rattle.rules.specs.Words.{body_at}
use Rattle.rules.specs.Sheet.{body_part}
use Rattle.rules.specs.Room.{full_indent, room_laid_out}
use Rattle.tokens.specs.Placed.{Inside}
use Rattle.records.specs.Sheeted.{Sheeted}
use Rattle.ascii.specs.Part.{part}
use Rattle.ascii.proofs.PartLaws.{part-cons, length_part, part-next, part_end}
use Rattle.ascii.proofs.SameLaws.{unlike}
use Rattle.places.proofs.Laws.{length_part as length-body}

-- ---- line feeds

module _ (s : List ℕ) (start n i : ℕ) where
  pub feeds_on : start + n ≤ length s → i < n → line_feeds (drop i (part s start n)) ≡ bool_byte (eqb (get_or s (start + i) 0) 10) + line_feeds (drop (i + 1) (part s start n))
  feeds_on h l = ap line_feeds (part-next s start n i h l) ∙ go (eqb (get_or s (start + i) 0) 10) (line_feeds (drop (i + 1) (part s start n)))
    where
      go : (b : Bool) (k : ℕ) → (if b then suc k else k) ≡ bool_byte b + k
      go true k = omega arith
      go false k = omega arith

  pub feeds_done : start + n ≤ length s → n ≤ i → line_feeds (drop i (part s start n)) ≡ 0
  feeds_done h l = ap line_feeds (part_end s start n i h l)

-- ---- the value `;`

module _ (s : List ℕ) (start n b : ℕ) (h : start + n ≤ length s) where
  pub other_length : (n ≡ 1 → ⊥) → same (part s start n) (b ∷ []) ≡ false
  other_length l = unlike (part s start n) (b ∷ []) (λ e. l (sym (length_part s start n h) ∙ e))

  pub by_byte : n ≡ 1 → same (part s start n) (b ∷ []) ≡ eqb (get_or s start 0) b
  by_byte l = rw (l, part-cons s start 0 (omega arith)) (and-true (eqb (get_or s start 0) b))

-- ---- what a value counts

module _ (s : List ℕ) (c : Counts) (p : Place) where
  -- a place in the bodies is no longer than they are
  pub place_short : Sheeted s c → Inside s (body_at c) p → p.len ≤ 32768
  place_short h i =
      let l = h.long in
      let f = h.few.bytes in
      let k = i.inside in
      omega arith

  pub counted : (o : FormatOptions) → Inside s (body_at c) p
      → room_laid_out o (body_part s (body_at c) p)
      ≡ p.len + (3 + 2 * full_indent o.indent) + (full_indent o.indent + 1) * line_feeds (part s (body_at c + p.start) p.len) + (if same (part s (body_at c + p.start) p.len) (59 ∷ []) then o.lines_between_queries else 0)
  unfolding room_laid_out body_part
  counted o i = rw (length-body s (body_at c) p i)
