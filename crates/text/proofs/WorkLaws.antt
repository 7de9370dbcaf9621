-- A loop that appends piece by piece: what it still has to append brings the text to the same end. Assumes nothing.
use mathlib.Core.Path.{◌≡◌, refl, sym, ap, ◌∙◌}
use mathlib.Core.List.{List, [], ◌++◌}
use Prim.Native.Nat.{ℕ}
use lib.ListN.{length}
use Rattle.rules.specs.Text.{Text, append}
use Rattle.text.specs.declared.Text.{Text as Code}
use Rattle.text.specs.Held.{text_of, Held, Laid}
use Rattle.text.proofs.HeldLaws.{laid, append-append, append-none}

-- with rest appended, the text is w
pub record Working (cap : ℕ) (w : Text) (rest : List ℕ) (t : Code) (d : List ℕ) : Type 0 where
  pub room : length d ≡ cap
  pub held : Held t d
  pub left : append cap rest (text_of t d) ≡ w

pub work_starts : (t : Code) (d v : List ℕ) → Held t d → Working (length d) (append (length d) v (text_of t d)) v t d
work_starts t d v h = record { room = refl; held = h; left = refl }

module _ {cap : ℕ} {w : Text} {rest : List ℕ} {t : Code} {d : List ℕ} (k : Working cap w rest t d) where
  -- nothing is appended
  pub work_same : (more : List ℕ) → rest ≡ more → Working cap w more t d
  work_same more e = record { room = k.room; held = k.held; left = ap (λ (v : List ℕ). append cap v (text_of t d)) (sym e) ∙ k.left }

  -- a piece is appended
  pub work_goes : {u : Code} {r : List ℕ} (v more : List ℕ) → rest ≡ v ++ more → Laid (length d) (append (length d) v (text_of t d)) u r → Working cap w more u r
  work_goes {u} {r} v more e q =
      let f : append (length d) v (text_of t d) ≡ append cap v (text_of t d) = ap (λ (n : ℕ). append n v (text_of t d)) k.room in
      record {
        room = q.room ∙ k.room;
        held = q.held;
        left =
            ap (append cap more) (q.text ∙ f) ∙ append-append cap more v (text_of t d)
            ∙ ap (λ (l : List ℕ). append cap l (text_of t d)) (sym e)
            ∙ k.left;
      }

  pub work_ends : rest ≡ [] → Laid cap w t d
  work_ends e =
      let f : append cap [] (text_of t d) ≡ append (length d) [] (text_of t d) = ap (λ (n : ℕ). append n [] (text_of t d)) (sym k.room) in
      laid cap w t d k.room k.held (sym (append-none t d k.held) ∙ sym f ∙ ap (λ (v : List ℕ). append cap v (text_of t d)) (sym e) ∙ k.left)
