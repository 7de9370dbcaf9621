-- Laws of the report. Assumes nothing.
use mathlib.Core.Path.{◌≡◌, refl, ap, ◌∙◌}
use mathlib.Core.Logic.{⊎_elim}
use mathlib.Core.List.{List}
use Prim.Native.Nat.{ℕ, ◌-◌, ◌^◌, ◌≤◌, ◌<◌}
use native.Mathlib.Omega.{arith}
use lib.ListN.{length, take, replicate}
use lib.Seq.{take-append_seam}
use Rattle.rules.specs.Text.{trim_end, Text, fits, refused, is_white, trim_start, trimmed, change, cut_white, bytes_in, lines, width}
use Rattle.text.specs.declared.Text.{Text as Code}
use Rattle.text.specs.Held.{text_of, code_of, bytes_of, Held, Laid}
use Rattle.text.proofs.HeldLaws.{zero_or, text-fits, text-refused, relaid, onward}
use Rattle.lines.specs.declared.Size.{Size}
use Rattle.report.specs.declared.Finished.{Finished}
use Rattle.lines.specs.Marked.{size_of}
use Rattle.report.specs.Finished.{finished}

done : ℕ → ℕ → ℕ → List ℕ → Finished
done f m n v = record { fault = f; end = m; len = n; lines = lines v; width = width v }

-- the length before the start is trimmed
end_of : Text → ℕ
end_of (fits k m b) = length (trim_end is_white b)
end_of (refused n) = 0

reported : {cap : ℕ} {t : Code} {d : List ℕ} (w : Text) → Laid cap (change trimmed w) t d → done t.fault (end_of w) t.len (take t.len d) ≡ finished w
unfolding done end_of finished code_of bytes_of
reported {cap} {t} {d} (fits k m b) p =
    rw (p.code, p.bytes) (ap (done 0 (length (trim_end is_white b)) (length (trimmed b))) (take-append_seam (trimmed b) (replicate (cap - length (trimmed b)) 0)))
reported (refused n) p = rw p.code

-- nothing is held at the end
loosen : Text → Text
loosen (fits k m b) = fits 0 0 b
loosen (refused n) = refused n

abbrev loose : Code → Code
loose t = record { len = t.len; floor = 0; low = 0; fault = t.fault }

loose-is : (t : Code) (d : List ℕ) → text_of (loose t) d ≡ loosen (text_of t d)
unfolding loosen
loose-is t d =
    ⊎_elim
    (λ (z : t.fault ≡ 0). rw (text-fits (loose t) d z, text-fits t d z))
    (λ (z : t.fault ≡ 0 → ⊥). rw (text-refused (loose t) d z, text-refused t d z))
    (zero_or t.fault)

pub loose-held : (t : Code) (d : List ℕ) → Held t d → Held (record { len = t.len; floor = 0; low = 0; fault = t.fault }) d
loose-held t d h = record { within = h.within; floored = omega arith; lowest = omega arith; zeros = h.zeros; empty = h.empty }

both_ends : (w : Text) → change (trim_start is_white) (cut_white (loosen w)) ≡ change trimmed w
unfolding trimmed loosen
both_ends (fits k m b) = refl
both_ends (refused n) = refl

module _ (cap : ℕ) (t : Code) (d : List ℕ) (t₁ t₂ : Code) (d₁ d₂ : List ℕ) (p : Laid cap (cut_white (text_of (record { len = t.len; floor = 0; low = 0; fault = t.fault }) d)) t₁ d₁) (q : Laid (length d₁) (change (trim_start is_white) (text_of t₁ d₁)) t₂ d₂) where
  abbrev w : Text
  w = text_of t d

  trims : Laid cap (change trimmed w) t₂ d₂
  trims = relaid refl (ap (λ (z : Text). change (trim_start is_white) (cut_white z)) (loose-is t d) ∙ both_ends w) (onward (λ n. change (trim_start is_white)) p q)

  cut_at : (v : Text) → (code_of (cut_white (loosen v))).len ≡ end_of v
  unfolding code_of loosen end_of
  cut_at (fits k m b) = refl
  cut_at (refused n) = refl

  end_is : t₁.len ≡ end_of w
  end_is = ap (λ (t : Code). t.len) p.code ∙ ap (λ (z : Text). (code_of (cut_white z)).len) (loose-is t d) ∙ cut_at w

  len_is : (v : Text) → (code_of (change trimmed v)).len ≡ length (trimmed (bytes_in v))
  unfolding code_of trimmed
  len_is (fits k m b) = refl
  len_is (refused n) = refl

  -- the text is short, and what is left of it is in the buffer
  pub by-short : length (trimmed (bytes_in (text_of t d))) < 2 ^ 60 → (t₂.len ≤ length d₂) × (t₂.len < 2 ^ 60)
  by-short h = let e = ap (λ (t : Code). t.len) trims.code ∙ len_is w in (trims.held.within, omega arith)

  pub by-finished : (s : Size) → s ≡ size_of (take t₂.len d₂) → record { fault = t₂.fault; end = t₁.len; len = t₂.len; lines = s.lines; width = s.width } ≡ finished w
  unfolding done
  by-finished s e = rw (e, end_is) (reported w trims)

  pub by-trimmed : d₂ ≡ bytes_of cap (change trimmed w)
  by-trimmed = trims.bytes
