-- How much each step adds to the text at most; and where the room has that much, no step refuses for want of it. The stack holds 128 entries, so an indent has a bound. Assumes nothing.
use mathlib.Core.Path.{◌≡◌, refl}
use mathlib.Core.Bool.{Bool, true, false}
use mathlib.Core.List.{List, [], ◌∷◌, ◌++◌}
use Prim.Native.Nat.{ℕ, ◌+◌, ◌≤◌, ◌<◌, max}
use native.Mathlib.Omega.{arith}
use lib.Dec.{eqb, leb}
use lib.ListN.{length, take, drop, length-append, length-take, length-drop}
use borrow.Author.Tests.{leb-false}
use Rattle.rules.specs.declared.Inline.{Inline}
use Rattle.rules.specs.declared.Inline.TheVariants as inline
use Rattle.rules.specs.declared.IndentType.TheVariants.{Top, Block, FoldedBlock}
use Rattle.rules.specs.declared.SpanInfo.{SpanInfo}
use Rattle.rules.specs.Base.{choose, when, full}
use Rattle.std.specs.Prelude.{if◌then◌else◌}
use Rattle.rules.specs.Sheet.{Env}
use Rattle.rules.specs.Text.{is_blank, is_white, trim_end, last_or, Text, fits, refused, append, line_feed, refuse, cut, hold, mark, bytes_in, is_on, new_line, closing_line}
use Rattle.rules.specs.Indentation.{Indentation, indent_level, increase_block_level, decrease_top_level, decrease_block_level, set_previous_reserved, set_previous_top_level}
use Rattle.rules.specs.Indentation as indentation
use Rattle.rules.specs.State.{State, refuse_if, trim_spaces_end, trim_all_spaces_end, push_str, push, one_blank, on_text, on_indentation, on_inline_block, on_block_level, on_index, add_new_line, close_line_comment, add_new_line_inner, get_indent, increase_top_level}
use Rattle.rules.specs.Formatter.{new_top_line}
use Rattle.rules.specs.Room.{full_indent}
use Rattle.rules.specs.RoomRun.{NotNine}
use Rattle.rules.proofs.Lengths.{length-trim_end, length-indent, unfolded-few, under-full, pop-top, pop-block}

-- ---- from a text to the next

abbrev pub length_of : Text → ℕ
length_of t = length (bytes_in t)

-- at most n bytes more, and no 9 if the room has as many left
pub record Longer (room : ℕ) (t u : Text) (n : ℕ) : Type 0 where
  pub more : length_of u ≤ length_of t + n
  pub no_nine : length_of t + n ≤ room → NotNine t → NotNine u

module _ {room : ℕ} where
  infixl 40 ◌next◌
  ◌next◌ : {t u w : Text} {n m : ℕ} → Longer room t u n → Longer room u w m → Longer room t w (n + m)
  ◌next◌ p q =
      let h = p.more in
      let k = q.more in
      record { more = omega arith; no_nine = λ l f. q.no_nine (omega arith) (p.no_nine (omega arith) f) }

  -- by no more than m
  up_to : {t u : Text} {n : ℕ} (m : ℕ) → n ≤ m → Longer room t u n → Longer room t u m
  up_to m l p = let h = p.more in record { more = omega arith; no_nine = λ k f. p.no_nine (omega arith) f }

  no_longer : (t : Text) → Longer room t t 0
  no_longer t = record { more = omega arith; no_nine = λ l f. f }

  cut-less : (p : ℕ → Bool) (t : Text) → Longer room t (cut p t) 0
  cut-less p (refused n) = no_longer (refused n)
  cut-less p (fits k m b) =
      let h = length-append (take k b) (trim_end p (drop k b)) in
      let t = length-take k b in
      let d = length-drop k b in
      let l = length-trim_end p (drop k b) in
      record { more = omega arith; no_nine = λ l f. tt }

  refuse-less : (b : Bool) {n : ℕ} → n < 9 → (t : Text) → Longer room t (if b then refuse n t else t) 0
  refuse-less true l (fits k m b) = record { more = omega arith; no_nine = λ r f e. omega arith }
  refuse-less true l (refused m) = no_longer (refused m)
  refuse-less false l t = no_longer t

  hold-same : (t : Text) → Longer room t (hold t) 0
  hold-same (fits k m b) = record { more = omega arith; no_nine = λ l f. tt }
  hold-same (refused n) = no_longer (refused n)

  mark-same : (t : Text) → Longer room t (mark t) 0
  mark-same (fits k m b) = record { more = omega arith; no_nine = λ l f. tt }
  mark-same (refused n) = no_longer (refused n)

  -- v of at most n bytes is appended
  append-more : (v : List ℕ) {n : ℕ} → length v ≤ n → (t : Text) → Longer room t (append room v t) n
  append-more v {n} l (refused m) = up_to n (omega arith) (no_longer (refused m))
  append-more v {n} l (fits k m b) = go (leb (length b + length v) room) refl
    where
      go : (f : Bool) → leb (length b + length v) room ≡ f → Longer room (fits k m b) (if f then fits k m (b ++ v) else refused 9) n
      go true e = let h = length-append b v in record { more = omega arith; no_nine = λ r f. tt }
      go false e = let h = leb-false (length b + length v) room e in record { more = omega arith; no_nine = λ r f. absurd (omega arith) }

  feed_more : (t : Text) → Longer room t (line_feed room t) 1
  feed_more (refused n) = up_to 1 (omega arith) (no_longer (refused n))
  feed_more (fits k m b) = go (eqb (last_or 0 b) 10)
    where
      go : (f : Bool) → Longer room (fits k m b) (if f then fits k m b else append room (10 ∷ []) (fits k m b)) 1
      go true = up_to 1 (omega arith) (no_longer (fits k m b))
      go false = append-more (10 ∷ []) (omega arith) (fits k m b)

  line-more : (on : Bool) (ind : List ℕ) {n : ℕ} → length ind ≤ n → (t : Text) → Longer room t (new_line room on ind t) (1 + n)
  unfolding new_line
  line-more true ind {n} l t = up_to (1 + n) (omega arith) (cut-less is_blank t next append-more (32 ∷ []) {n = 1} (omega arith) _)
  line-more false ind {n} l t = cut-less is_blank t next feed_more _ next append-more ind l _

  closing-more : (i : Inline) (ind : List ℕ) {n : ℕ} → length ind ≤ n → (t : Text) → Longer room t (closing_line room i ind t) (1 + n)
  unfolding closing_line
  closing-more inline.Off ind l t = line-more false ind l t
  closing-more inline.Comments ind {n} l t = up_to (1 + n) (omega arith) (cut-less is_blank t next feed_more _ next hold-same _)

-- ---- from a state to the next: the text, and the stack stays in its bound

-- the stack holds no more than 128 entries
abbrev pub Deep : State → Type 0
Deep s = length s.indentation.indent_types ≤ 128

pub record Grows (room : ℕ) (s u : State) (n : ℕ) : Type 0 where
  pub longer : Deep s → Longer room s.text u.text n
  pub deep : Deep s → Deep u

module _ {room : ℕ} where
  infixl 40 ◌then◌
  pub ◌then◌ : {s u w : State} {n m : ℕ} → Grows room s u n → Grows room u w m → Grows room s w (n + m)
  ◌then◌ p q = record { longer = λ d. p.longer d next q.longer (p.deep d); deep = λ d. q.deep (p.deep d) }

  pub at_most : {s u : State} {n : ℕ} (m : ℕ) → n ≤ m → Grows room s u n → Grows room s u m
  at_most m l p = record { longer = λ d. up_to m l (p.longer d); deep = p.deep }

  pub either : (b : Bool) (f g : State → State) {s : State} {n m : ℕ} → Grows room s (f s) n → Grows room s (g s) m → Grows room s (choose b f g s) (if b then n else m)
  unfolding choose
  either true f g p q = p
  either false f g p q = q

  pub chosen : (b : Bool) (f g : State → State) {s : State} {n m : ℕ} → Grows room s (f s) n → Grows room s (g s) m → Grows room s (choose b f g s) (max n m)
  chosen b f g {s} {n} {m} p q = at_most (max n m) (go b) (either b f g p q)
    where
      go : (b : Bool) → (if b then n else m) ≤ max n m
      go true = omega arith
      go false = omega arith

  -- the stack's bound may be used
  pub granted : {s u : State} {n : ℕ} → (Deep s → Grows room s u n) → Grows room s u n
  granted f = record { longer = λ d. (f d).longer d; deep = λ d. (f d).deep d }

  -- the text moves, and nothing else
  texts : (f : Text → Text) {s : State} {n : ℕ} → (Deep s → Longer room s.text (f s.text) n) → Grows room s (on_text f s) n
  unfolding on_text
  texts f h = record { longer = h; deep = λ d. d }

  -- the text stays
  quietly : {s u : State} → u.text ≡ s.text → (Deep s → Deep u) → Grows room s u 0
  quietly {s} e h = record { longer = λ d. rw e (no_longer s.text); deep = h }

  pub stays : (s : State) → Grows room s s 0
  stays s = quietly refl (λ d. d)

  pub maybe : (b : Bool) (f : State → State) {s : State} {n : ℕ} → Grows room s (f s) n → Grows room s (when b f s) n
  unfolding when
  maybe true f p = p
  maybe false f {s} {n} p = at_most n (omega arith) (stays s)

  -- ---- steps on the text

  pub trims : {s : State} → Grows room s (trim_spaces_end s) 0
  unfolding trim_spaces_end
  trims {s} = texts _ (λ d. cut-less is_blank s.text)

  pub trims_all : {s : State} → Grows room s (trim_all_spaces_end s) 0
  unfolding trim_all_spaces_end
  trims_all {s} = texts _ (λ d. cut-less is_white s.text)

  pub refuses : (b : Bool) (n : ℕ) {s : State} → n < 9 → Grows room s (refuse_if b n s) 0
  unfolding refuse_if
  refuses b n {s} l = texts _ (λ d. refuse-less b l s.text)

  pub marked : (s : State) → Grows room s (on_text mark s) 0
  marked s = texts mark (λ d. mark-same s.text)

  -- ---- steps on the stacks and the numbers

  -- entries are popped, or none is touched
  pub indents : (f : Indentation (List ℕ) → Indentation (List ℕ)) {s : State} → length (f s.indentation).indent_types ≤ length s.indentation.indent_types → Grows room s (on_indentation f s) 0
  unfolding on_indentation
  indents f h = quietly refl (λ d. omega arith)

  pub levels : (f : ℕ → ℕ) {s : State} → Grows room s (on_block_level f s) 0
  unfolding on_block_level
  levels f = quietly refl (λ d. d)

  pub inlines : (f : List ℕ → List ℕ) {s : State} → Grows room s (on_inline_block f s) 0
  unfolding on_inline_block
  inlines f = quietly refl (λ d. d)

  pub moves : (f : ℕ → ℕ) {s : State} → Grows room s (on_index f s) 0
  unfolding on_index
  moves f = quietly refl (λ d. d)

  raises : (sp : SpanInfo) {s : State} → Grows room s (on_indentation (indentation.increase_top_level sp) s) 0
  unfolding on_indentation indentation.increase_top_level
  raises sp {s} = quietly refl (λ d. under-full s.indentation.indent_types _ _ Top d refl refl)

  pub opens : (folded : Bool) {s : State} → Grows room s (on_indentation (increase_block_level folded) s) 0
  unfolding on_indentation increase_block_level
  opens folded {s} = quietly refl (λ d. under-full s.indentation.indent_types _ _ (if folded then FoldedBlock else Block) d refl refl)

  lowers : {s : State} → Grows room s (on_indentation decrease_top_level s) 0
  unfolding decrease_top_level
  lowers {s} = indents decrease_top_level (pop-top s.indentation.indent_types s.indentation refl)

  -- the indentation that closing a block leaves, with other parts of the state moved before
  pub closes-block : {s : State} {i : Indentation (List ℕ)} → s.indentation ≡ i → Grows room s (on_indentation (λ j. (decrease_block_level i).left) s) 0
  unfolding decrease_block_level
  closes-block {s} {i} e = indents _ (rw e (pop-block i.indent_types i.top_level_span i.previous))

  pub increases : (sp : SpanInfo) {s : State} → Grows room s (increase_top_level sp s) 0
  unfolding increase_top_level
  increases sp {s} = at_most 0 (omega arith) (refuses (full s.indentation.indent_types) 6 (omega arith) then raises sp)

  pub marks_top : (v : List ℕ) (sp : SpanInfo) {s : State} → Grows room s (on_indentation (set_previous_top_level v sp) s) 0
  unfolding set_previous_top_level
  marks_top v sp = indents _ (omega arith)

  pub marks : (v : List ℕ) {s : State} → Grows room s (on_indentation (set_previous_reserved v) s) 0
  unfolding set_previous_reserved
  marks v = indents _ (omega arith)

-- ---- with a buffer: what is appended, and new lines

module _ (e : Env) where
  -- an indent of the full stack; with a line feed
  abbrev pub indent_most : ℕ
  indent_most = full_indent e.options.indent

  abbrev pub line_most : ℕ
  line_most = 1 + indent_most

  -- v of at most n bytes is appended
  pub pushes : (v : List ℕ) {n : ℕ} {s : State} → length v ≤ n → Grows e.room s (push_str e v s) n
  unfolding push_str
  pushes v {n} {s} l = texts _ (λ d. append-more v l s.text)

  pub blank : {s : State} → Grows e.room s (push e 32 s) 1
  unfolding push
  blank = pushes (32 ∷ []) (omega arith)

  pub blanked : {s : State} → Grows e.room s (one_blank e s) 1
  unfolding one_blank
  blanked = trims then blank

  pub length-get_indent : (folded : Bool) (s : State) → Deep s → length (get_indent e folded s) ≤ indent_most
  unfolding get_indent indent_level
  length-get_indent folded s d =
      let h = unfolded-few s.indentation.indent_types in
      length-indent e.options.indent _ (omega arith)

  pub new_line_inner : (folded : Bool) {s : State} → Grows e.room s (add_new_line_inner e folded s) line_most
  unfolding add_new_line_inner
  new_line_inner folded {s} = texts _ (λ d. line-more (is_on e.options.inline) _ (length-get_indent folded s d) s.text)

  pub closes : {s : State} → Grows e.room s (close_line_comment e s) line_most
  unfolding close_line_comment
  closes {s} = texts _ (λ d. closing-more e.options.inline _ (length-get_indent false s d) s.text)

  pub lines : {s : State} → Grows e.room s (add_new_line e s) line_most
  unfolding add_new_line
  lines = new_line_inner false

  pub top_lines : {s : State} → Grows e.room s (new_top_line e s) line_most
  unfolding new_top_line
  top_lines = at_most line_most (omega arith) (lowers then lines)
