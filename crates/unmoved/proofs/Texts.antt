-- Two working texts that are the same items, or of which one is refused; each step on a text keeps them so. Assumes nothing.
use mathlib.Core.Path.{◌≡◌, sym, ap, ◌∙◌}
use mathlib.Core.Bool.{Bool, true, false}
use mathlib.Core.List.{List, [], ◌∷◌, ◌++◌}
use Prim.Native.Nat.{ℕ, ◌+◌, min}
use lib.Dec.{eqb, leb}
use lib.ListN.{length, take, drop}
use lib.Seq.{take-append_seam, drop-append_seam}
use Rattle.rules.specs.declared.Inline.{Inline}
use Rattle.rules.specs.declared.Inline.TheVariants as inline
use Rattle.std.specs.Prelude.{if◌then◌else◌}
use Rattle.rules.specs.Text.{is_blank, is_white, trim_end, last_or, Text, fits, refused, append, line_feed, refuse, cut, cut_blanks, cut_white, hold, mark, bytes_in, new_line, closing_line}
use Rattle.rules.specs.Due.{white}
use Rattle.rules.proofs.Strip.{white-true, blank-white}
use Rattle.unmoved.specs.Unmoved.{firm}
use Rattle.unmoved.proofs.Items.{Item, hole, pick, expand, expand-append, onto, expand-onto, onto-append, trim, expand-trim, fed, last-fed, Spot, spots_of, spots-onto, spots-trim, Within, within-min, within_all}

-- ---- one text: the items down to the floor, and those that are held; the values stand at hs, and the low is past all of ls
pub record Reads (i : Bool) (ls hs : List Spot) (k l : ℕ) (b : List ℕ) (free held : List Item) : Type 0 where
  pub bytes : b ≡ expand i (free ++ held)
  pub floor : k ≡ length (expand i held)
  pub spots : spots_of i (free ++ held) ≡ hs
  pub low : Within l ls

module _ {i : Bool} {ls hs : List Spot} {k l : ℕ} {b : List ℕ} {free held : List Item} (r : Reads i ls hs k l b free held) where
  reads-append : (v : List ℕ) → Reads i ls hs k l (b ++ v) (onto v free) held
  reads-append v =
      record {
        bytes = rw (r.bytes, onto-append v free held, expand-onto i v (free ++ held));
        floor = r.floor;
        spots = rw (onto-append v free held, spots-onto i v (free ++ held)) r.spots;
        low = r.low;
      }

  -- a value behind the text
  reads-hole : (v w : List ℕ) (f : firm v ≡ true) (g : firm w ≡ true) → Reads i ls (record { start = length b; len = length (pick i v w) } ∷ hs) k l (b ++ pick i v w) (hole v w f g ∷ free) held
  reads-hole v w f g =
      record {
        bytes = ap (λ (x : List ℕ). x ++ pick i v w) r.bytes;
        floor = r.floor;
        spots = rw (r.spots, ← r.bytes);
        low = r.low;
      }

  reads-hold : Reads i ls hs (length b) l b [] (free ++ held)
  reads-hold = record { bytes = r.bytes; floor = ap length r.bytes; spots = r.spots; low = r.low }

  reads-within : Within (length b) hs
  reads-within = rw (r.bytes, ← r.spots) (within_all i (free ++ held))

  reads-mark : Reads i hs hs k (length b) b free held
  reads-mark = record { bytes = r.bytes; floor = r.floor; spots = r.spots; low = reads-within }

  reads-fed : eqb (last_or 0 b) 10 ≡ fed (free ++ held)
  reads-fed = rw r.bytes (last-fed i (free ++ held))

reads-cut : (p : ℕ → Bool) → ((x : ℕ) → p x ≡ true → white x ≡ true) → {i : Bool} {hs : List Spot} {k l : ℕ} {b : List ℕ} {free held : List Item} → Reads i hs hs k l b free held
    → let c = take k b ++ trim_end p (drop k b) in Reads i hs hs k (min l (length c)) c (trim p free) held
reads-cut p w {i} {hs} {k} {l} {b} {free} {held} r =
    let whole : b ≡ expand i held ++ expand i free = r.bytes ∙ expand-append i free held in
    let c : List ℕ = take k b ++ trim_end p (drop k b) in
    let kept : c ≡ expand i (trim p free ++ held) =
    rw (whole, r.floor, take-append_seam (expand i held) (expand i free), drop-append_seam (expand i held) (expand i free), expand-trim p w i free)
    (sym (expand-append i (trim p free) held))
    in
    let stay : spots_of i (trim p free ++ held) ≡ hs = spots-trim p i free held ∙ r.spots in
    let high : Within (length c) hs = rw (kept, ← stay) (within_all i (trim p free ++ held)) in
    record { bytes = kept; floor = r.floor; spots = stay; low = within-min l (length c) hs r.low high }

-- ---- two texts: the same items, or one is refused; lows and spots of the one, and of the other

pub data Texts (ls hs ls' hs' : List Spot) : Text → Text → Type 0 where
  both : {k l k' l' : ℕ} {b b' : List ℕ} {free held : List Item} → Reads true ls hs k l b free held → Reads false ls' hs' k' l' b' free held → Texts ls hs ls' hs' (fits k l b) (fits k' l' b')
  one-refused : {n : ℕ} {u : Text} → Texts ls hs ls' hs' (refused n) u
  other-refused : {t : Text} {n : ℕ} → Texts ls hs ls' hs' t (refused n)

-- each side has room, or is refused
either : {ls hs ls' hs' : List Spot} (c d : Bool) (m n : ℕ) {t u : Text} → Texts ls hs ls' hs' t u → Texts ls hs ls' hs' (if c then t else refused m) (if d then u else refused n)
either true true m n p = p
either true false m n p = other-refused
either false d m n p = one-refused

module _ {ls hs ls' hs' : List Spot} where
  pub texts-append : (room room' : ℕ) (v : List ℕ) {t u : Text} → Texts ls hs ls' hs' t u → Texts ls hs ls' hs' (append room v t) (append room' v u)
  texts-append room room' v (both {b = b} {b' = b'} p q) = either (leb (length b + length v) room) (leb (length b' + length v) room') 9 9 (both (reads-append p v) (reads-append q v))
  texts-append room room' v one-refused = one-refused
  texts-append room room' v other-refused = other-refused

  -- a value behind each
  pub texts-hole : (room room' : ℕ) (v w : List ℕ) → firm v ≡ true → firm w ≡ true → {t u : Text} → Texts ls hs ls' hs' t u
      → Texts ls (record { start = length (bytes_in t); len = length v } ∷ hs) ls' (record { start = length (bytes_in u); len = length w } ∷ hs') (append room v t) (append room' w u)
  texts-hole room room' v w f g (both {b = b} {b' = b'} p q) = either (leb (length b + length v) room) (leb (length b' + length w) room') 9 9 (both (reads-hole p v w f g) (reads-hole q v w f g))
  texts-hole room room' v w f g one-refused = one-refused
  texts-hole room room' v w f g other-refused = other-refused

  pub texts-refuse : (n : ℕ) (c : Bool) {t u : Text} → Texts ls hs ls' hs' t u → Texts ls hs ls' hs' (if c then refuse n t else t) (if c then refuse n u else u)
  texts-refuse n true (both p q) = one-refused
  texts-refuse n true one-refused = one-refused
  texts-refuse n true other-refused = other-refused
  texts-refuse n false p = p

  texts-hold : {t u : Text} → Texts ls hs ls' hs' t u → Texts ls hs ls' hs' (hold t) (hold u)
  texts-hold (both p q) = both (reads-hold p) (reads-hold q)
  texts-hold one-refused = one-refused
  texts-hold other-refused = other-refused

  pub texts-mark : {t u : Text} → Texts ls hs ls' hs' t u → Texts hs hs hs' hs' (mark t) (mark u)
  texts-mark (both p q) = both (reads-mark p) (reads-mark q)
  texts-mark one-refused = one-refused
  texts-mark other-refused = other-refused

  texts-feed : (room room' : ℕ) {t u : Text} → Texts ls hs ls' hs' t u → Texts ls hs ls' hs' (line_feed room t) (line_feed room' u)
  texts-feed room room' (both {k = k} {l = l} {k' = k'} {l' = l'} {b = b} {b' = b'} {free = free} {held = held} p q) = rw (reads-fed p, reads-fed q) (go (fed (free ++ held)))
    where
      go : (f : Bool) → Texts ls hs ls' hs' (if f then fits k l b else append room (10 ∷ []) (fits k l b)) (if f then fits k' l' b' else append room' (10 ∷ []) (fits k' l' b'))
      go true = both p q
      go false = texts-append room room' (10 ∷ []) (both p q)
  texts-feed room room' one-refused = one-refused
  texts-feed room room' other-refused = other-refused

-- no value is added: the low is past all of them
module _ {hs hs' : List Spot} where
  texts-cut : (p : ℕ → Bool) → ((x : ℕ) → p x ≡ true → white x ≡ true) → {t u : Text} → Texts hs hs hs' hs' t u → Texts hs hs hs' hs' (cut p t) (cut p u)
  texts-cut p w (both q r) = both (reads-cut p w q) (reads-cut p w r)
  texts-cut p w one-refused = one-refused
  texts-cut p w other-refused = other-refused

  pub texts-blanks : {t u : Text} → Texts hs hs hs' hs' t u → Texts hs hs hs' hs' (cut_blanks t) (cut_blanks u)
  texts-blanks q = texts-cut is_blank blank-white q

  pub texts-white : {t u : Text} → Texts hs hs hs' hs' t u → Texts hs hs hs' hs' (cut_white t) (cut_white u)
  texts-white q = texts-cut is_white white-true q

  pub texts-line : (room room' : ℕ) (on : Bool) (ind : List ℕ) {t u : Text} → Texts hs hs hs' hs' t u → Texts hs hs hs' hs' (new_line room on ind t) (new_line room' on ind u)
  unfolding new_line
  texts-line room room' true ind q = texts-append room room' (32 ∷ []) (texts-blanks q)
  texts-line room room' false ind q = texts-append room room' ind (texts-feed room room' (texts-blanks q))

  pub texts-closing : (room room' : ℕ) (i : Inline) (ind : List ℕ) {t u : Text} → Texts hs hs hs' hs' t u → Texts hs hs hs' hs' (closing_line room i ind t) (closing_line room' i ind u)
  unfolding closing_line
  texts-closing room room' inline.Off ind q = texts-line room room' false ind q
  texts-closing room room' inline.Comments ind q = texts-hold (texts-feed room room' (texts-blanks q))
