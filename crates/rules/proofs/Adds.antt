-- What each rule adds to the text, white bytes aside, and what it leaves of the bytes before. A refusal adds nothing that is read, and nothing follows it. Assumes nothing.
use mathlib.Core.Path.{◌≡◌, refl, sym, ◌∙◌}
use mathlib.Core.Bool.{Bool, true, false}
use Rattle.std.specs.Prelude.{Option, None, Some, if◌then◌else◌}
use mathlib.Core.List.{List, [], ◌∷◌, ◌++◌, append_assoc, append-nil}
use Prim.Native.Nat.{ℕ, suc, ◌+◌, ◌≤◌}
use native.Mathlib.Omega.{arith}
use lib.Dec.{eqb, leb}
use lib.ListN.{length, take, drop, take-append-drop}
use Rattle.rules.specs.declared.SpanInfo.{SpanInfo}
use Rattle.rules.specs.declared.BlockInfo.{BlockInfo}
use Rattle.rules.specs.Base.{choose, when, full}
use Rattle.rules.specs.Tokens.{Token, Here}
use Rattle.rules.specs.Sheet.{Env}
use Rattle.rules.specs.declared.Inline.{Inline}
use Rattle.rules.specs.declared.Inline.TheVariants as inline
use Rattle.rules.specs.Text.{is_blank, is_white, trim_end, last_or, Text, fits, refused, append, line_feed, refuse, cut, cut_blanks, hold, is_on, new_line, closing_line}
use Rattle.rules.specs.Indentation.{Indentation}
use Rattle.rules.specs.State.{State, refuse_if, trim_spaces_end, trim_all_spaces_end, push_str, push, one_blank, on_text, on_indentation, on_inline_block, on_block_level, add_new_line, close_line_comment, add_new_line_inner, get_indent, increase_top_level}
use Rattle.rules.specs.Formatter.{format_reserved_word, push_reserved, format_line_comment, format_type_specifier, format_block_comment, new_top_line, format_top_level_reserved_word, format_top_level_reserved_word_no_indent, format_newline_after_reserved_word, indent_inlined, format_newline_reserved_word, format_reserved, format_with_spaces, format_with_space_after, format_without_spaces, format_opening_parentheses, format_closing_parentheses, format_comma, format_query_separator, format_by_value}
use Rattle.rules.specs.Due.{white, strip}
use Rattle.rules.proofs.Strip.{white-true, strip-append, strip-trim_end, blank-white, strip-equalize, strip-indent_comment, strip-indent, strip-replicate}
use Rattle.rules.proofs.Kept.{Kept, kept_then, kept-nothing, kept-cut, kept_append}

-- the numbers that a layout refuses with
abbrev pub Numbered : ℕ → Type 0
Numbered n = (1 ≤ n) × (n ≤ 9)

-- from a text to the next, v is added; a refusal has a number, and stays
abbrev pub Grown : Text → Text → List ℕ → Type 0
Grown (fits k m b) (fits l n c) v = strip c ≡ strip b ++ v
Grown (fits k m b) (refused n) v = Numbered n
Grown (refused n) (fits l m c) v = ⊥
Grown (refused n) (refused m) v = n ≡ m

-- and of the bytes before, those below the new low stay
pub record Goes (t u : Text) (v : List ℕ) : Type 0 where
  pub grown : Grown t u v
  pub kept : Kept t u

-- from s to u, v is added, and the parameter counter stays
pub record Adds (s u : State) (v : List ℕ) : Type 0 where
  pub goes : Goes s.text u.text v
  pub counted : u.index ≡ s.index

-- ---- one after the other, and choices

grown-then : (t u w : Text) (x y : List ℕ) → Grown t u x → Grown u w y → Grown t w (x ++ y)
grown-then (fits i f a) (fits j g b) (fits k h c) x y p q = rw (q, p) (append_assoc (strip a) x y)
grown-then (fits i f a) (fits j g b) (refused n) x y p q = q
grown-then (fits i f a) (refused n) (fits k h c) x y p q = absurd q
grown-then (fits i f a) (refused n) (refused m) x y p q = rw q at p
grown-then (refused k) (fits j g b) w x y p q = absurd p
grown-then (refused k) (refused n) (fits l h c) x y p q = absurd q
grown-then (refused k) (refused n) (refused m) x y p q = p ∙ q

goes_then : (t u w : Text) (x y : List ℕ) → Goes t u x → Goes u w y → Goes t w (x ++ y)
goes_then t u w x y p q = record { grown = grown-then t u w x y p.grown q.grown; kept = kept_then t u w p.kept q.kept }

infixl 40 ◌then◌ ◌quietly◌
-- what comes first adds nothing
pub ◌then◌ : {s u w : State} {y : List ℕ} → Adds s u [] → Adds u w y → Adds s w y
◌then◌ {s} {u} {w} {y} p q = record { goes = goes_then s.text u.text w.text [] y p.goes q.goes; counted = q.counted ∙ p.counted }

-- what comes second adds nothing
pub ◌quietly◌ : {s u w : State} {x : List ℕ} → Adds s u x → Adds u w [] → Adds s w x
◌quietly◌ {s} {u} {w} {x} p q = record { goes = rw (append-nil x) at (goes_then s.text u.text w.text x [] p.goes q.goes); counted = q.counted ∙ p.counted }

pub chosen : (b : Bool) (f g : State → State) {s : State} {v : List ℕ} → Adds s (f s) v → Adds s (g s) v → Adds s (choose b f g s) v
unfolding choose
chosen true f g p q = p
chosen false f g p q = q

goes-nothing : (t : Text) → Goes t t []
goes-nothing (fits k m b) = record { grown = sym (append-nil (strip b)); kept = kept-nothing (fits k m b) }
goes-nothing (refused n) = record { grown = refl; kept = tt }

pub same_text : {s u : State} → u.text ≡ s.text → u.index ≡ s.index → Adds s u []
same_text {s} {u} e c = record { goes = rw e (goes-nothing s.text); counted = c }

pub maybe : (b : Bool) (f : State → State) {s : State} → Adds s (f s) [] → Adds s (when b f s) []
unfolding when
maybe true f p = p
maybe false f {s} p = same_text refl refl

-- ---- steps on the text

grown-trim : (p : ℕ → Bool) → ((x : ℕ) → p x ≡ true → white x ≡ true) → (t : Text) → Grown t (cut p t) []
grown-trim p w (fits k m b) = strip-append (take k b) (trim_end p (drop k b)) ∙ rw (strip-trim_end p w (drop k b), ← strip-append (take k b) (drop k b), take-append-drop k b) (sym (append-nil (strip b)))
grown-trim p w (refused n) = refl

goes-trim : (p : ℕ → Bool) → ((x : ℕ) → p x ≡ true → white x ≡ true) → (t : Text) → Goes t (cut p t) []
goes-trim p w t = record { grown = grown-trim p w t; kept = kept-cut p w t }

pub trims : {s : State} → Adds s (trim_spaces_end s) []
unfolding trim_spaces_end on_text
trims {s} = record { goes = goes-trim is_blank blank-white s.text; counted = refl }

pub trims_all : {s : State} → Adds s (trim_all_spaces_end s) []
unfolding trim_all_spaces_end on_text
trims_all {s} = record { goes = goes-trim is_white white-true s.text; counted = refl }

goes-append : (room : ℕ) (v : List ℕ) (t : Text) → Goes t (append room v t) (strip v)
goes-append room v (refused n) = record { grown = refl; kept = tt }
goes-append room v (fits k m b) = go (leb (length b + length v) room)
  where
    go : (f : Bool) → Goes (fits k m b) (if f then fits k m (b ++ v) else refused 9) (strip v)
    go true = record { grown = strip-append b v; kept = kept_append k m b v }
    go false = record { grown = (omega arith, omega arith); kept = tt }

pub pushes : (e : Env) (v : List ℕ) {s : State} → Adds s (push_str e v s) (strip v)
unfolding push_str on_text
pushes e v {s} = record { goes = goes-append e.room v s.text; counted = refl }

-- a value that strips to w
pub pushes_as : (e : Env) (v : List ℕ) {w : List ℕ} {s : State} → strip v ≡ w → Adds s (push_str e v s) w
pushes_as e v {w} {s} q = rw q at (pushes e v {s = s})

pub blank : (e : Env) {s : State} → Adds s (push e 32 s) []
unfolding push
blank e = pushes e (32 ∷ [])

goes-refuse : (n : ℕ) → Numbered n → (b : Bool) (t : Text) → Goes t (if b then refuse n t else t) []
goes-refuse n z true (fits k m b) = record { grown = z; kept = tt }
goes-refuse n z true (refused m) = record { grown = refl; kept = tt }
goes-refuse n z false t = goes-nothing t

pub refuses : (b : Bool) (n : ℕ) → Numbered n → {s : State} → Adds s (refuse_if b n s) []
unfolding refuse_if on_text
refuses b n z {s} = record { goes = goes-refuse n z b s.text; counted = refl }

-- ---- steps that leave the text

pub indents : (f : Indentation (List ℕ) → Indentation (List ℕ)) {s : State} → Adds s (on_indentation f s) []
unfolding on_indentation
indents f = same_text refl refl

levels : (f : ℕ → ℕ) {s : State} → Adds s (on_block_level f s) []
unfolding on_block_level
levels f = same_text refl refl

inlines : (f : List ℕ → List ℕ) {s : State} → Adds s (on_inline_block f s) []
unfolding on_inline_block
inlines f = same_text refl refl

pub increases : (sp : SpanInfo) {s : State} → Adds s (increase_top_level sp s) []
unfolding increase_top_level
increases sp = refuses _ 6 (omega arith, omega arith) then indents _

-- ---- new lines: an indent is white

goes-feed : (room : ℕ) (t : Text) → Goes t (line_feed room t) []
goes-feed room (refused n) = record { grown = refl; kept = tt }
goes-feed room (fits k m b) = go (eqb (last_or 0 b) 10)
  where
    go : (f : Bool) → Goes (fits k m b) (if f then fits k m b else append room (10 ∷ []) (fits k m b)) []
    go true = goes-nothing (fits k m b)
    go false = goes-append room (10 ∷ []) (fits k m b)

-- blanks are cut, and there is a line feed
goes-fed : (room : ℕ) (t : Text) → Goes t (line_feed room (cut_blanks t)) []
goes-fed room t = goes_then t (cut_blanks t) (line_feed room (cut_blanks t)) [] [] (goes-trim is_blank blank-white t) (goes-feed room (cut_blanks t))

goes-line : (room : ℕ) (on : Bool) (ind : List ℕ) (t : Text) → strip ind ≡ [] → Goes t (new_line room on ind t) []
unfolding new_line
goes-line room true ind t w =
    goes_then t (cut_blanks t) (append room (32 ∷ []) (cut_blanks t)) [] [] (goes-trim is_blank blank-white t) (goes-append room (32 ∷ []) (cut_blanks t))
goes-line room false ind t w =
    let fed : Text = line_feed room (cut_blanks t) in
    goes_then t fed (append room ind fed) [] [] (goes-fed room t) (rw w at (goes-append room ind fed))

pub new_line_inner : (e : Env) (folded : Bool) {s : State} → Adds s (add_new_line_inner e folded s) []
unfolding add_new_line_inner get_indent on_text
new_line_inner e folded {s} = record { goes = goes-line e.room (is_on e.options.inline) _ s.text (strip-indent e.options.indent _); counted = refl }

goes-held : (t : Text) → Goes t (hold t) []
goes-held (fits k m b) = record { grown = sym (append-nil (strip b)); kept = kept-nothing (fits k m b) }
goes-held (refused n) = record { grown = refl; kept = tt }

goes-closing : (room : ℕ) (i : Inline) (ind : List ℕ) (t : Text) → strip ind ≡ [] → Goes t (closing_line room i ind t) []
unfolding closing_line
goes-closing room inline.Off ind t w = goes-line room false ind t w
goes-closing room inline.Comments ind t w = let fed : Text = line_feed room (cut_blanks t) in goes_then t fed (hold fed) [] [] (goes-fed room t) (goes-held fed)

closes : (e : Env) {s : State} → Adds s (close_line_comment e s) []
unfolding close_line_comment get_indent on_text
closes e {s} = record { goes = goes-closing e.room e.options.inline _ s.text (strip-indent e.options.indent _); counted = refl }

pub lines : (e : Env) {s : State} → Adds s (add_new_line e s) []
unfolding add_new_line
lines e = new_line_inner e false

pub top_lines : (e : Env) {s : State} → Adds s (new_top_line e s) []
unfolding new_top_line
top_lines e = indents _ then lines e

pub blanked : (e : Env) {s : State} → Adds s (one_blank e s) []
unfolding one_blank
blanked e = trims then blank e

-- ---- the rules, one by one

pub with_spaces : (e : Env) (v : List ℕ) {s : State} → Adds s (format_with_spaces e v s) (strip v)
unfolding format_with_spaces
with_spaces e v = pushes e v quietly blank e

pub space_after : (e : Env) (v : List ℕ) {s : State} → Adds s (format_with_space_after e v s) (strip v)
unfolding format_with_space_after
space_after e v = trims then pushes e v quietly blank e

pub without_spaces : (e : Env) (v : List ℕ) {s : State} → Adds s (format_without_spaces e v s) (strip v)
unfolding format_without_spaces
without_spaces e v = trims then pushes e v

pub comma : (e : Env) (v : List ℕ) {s : State} → Adds s (format_comma e v s) (strip v)
unfolding format_comma
comma e v = space_after e v quietly maybe _ _ (lines e)

pub separator : (e : Env) (v : List ℕ) {s : State} → Adds s (format_query_separator e v s) (strip v)
unfolding format_query_separator
separator e v = indents _ then trims then pushes e v quietly pushes_as e _ (strip-replicate e.options.lines_between_queries 10 refl)

pub by_value : (e : Env) (v : List ℕ) {s : State} → Adds s (format_by_value e v s) (strip v)
unfolding format_by_value
by_value e v =
    chosen _ _ _ (comma e v) (chosen _ _ _ (space_after e v) (chosen _ _ _ (without_spaces e v) (chosen _ _ _ (separator e v) (with_spaces e v))))

pub word : (e : Env) (t : Token) {s : State} → Adds s (push_reserved e t s) (strip (format_reserved_word e t.value))
unfolding push_reserved
word e t = pushes_as e _ (strip-equalize (format_reserved_word e t.value))

pub reserved : (e : Env) (h : Here) {s : State} → Adds s (format_reserved e h s) (strip (format_reserved_word e h.token.value))
unfolding format_reserved
reserved e h = word e h.token quietly blank e quietly indents _

pub line_comment : (e : Env) (h : Here) {s : State} → Adds s (format_line_comment e h s) (strip h.token.value)
unfolding format_line_comment
line_comment e h = chosen _ _ _ (lines e) (maybe _ _ (trims_all then pushes e (32 ∷ 32 ∷ []))) then pushes e h.token.value quietly closes e

pub type_specifier : (e : Env) (h : Here) {s : State} → Adds s (format_type_specifier e h s) (strip h.token.value)
unfolding format_type_specifier
type_specifier e h = trims_all then pushes e h.token.value quietly maybe _ _ (blank e)

pub block_comment : (e : Env) (h : Here) {s : State} → Adds s (format_block_comment e h s) (strip h.token.value)
unfolding format_block_comment get_indent
block_comment e h = lines e then pushes_as e _ (strip-indent_comment _ h.token.value (strip-indent e.options.indent _)) quietly lines e

pub top_level : (e : Env) (h : Here) (sp : SpanInfo) {s : State} → Adds s (format_top_level_reserved_word e h sp s) (strip (format_reserved_word e h.token.value))
unfolding format_top_level_reserved_word
top_level e h sp =
    maybe _ _ (top_lines e) then word e h.token quietly chosen _ _ _ (increases sp then lines e) (blank e) quietly indents _

pub top_level_no_indent : (e : Env) (h : Here) (sp : SpanInfo) {s : State} → Adds s (format_top_level_reserved_word_no_indent e h sp s) (strip (format_reserved_word e h.token.value))
unfolding format_top_level_reserved_word_no_indent
top_level_no_indent e h sp = maybe _ _ (top_lines e) then word e h.token quietly chosen _ _ _ (lines e) (blank e) quietly indents _

pub newline_after : (e : Env) (h : Here) (sp : SpanInfo) {s : State} → Adds s (format_newline_after_reserved_word e h sp s) (strip (format_reserved_word e h.token.value))
unfolding format_newline_after_reserved_word
newline_after e h sp = chosen _ _ _ (top_lines e) (blanked e) then word e h.token quietly increases sp quietly lines e quietly indents _

indents_inlined : (o : Option SpanInfo) {s : State} → Adds s (indent_inlined o s) []
unfolding indent_inlined
indents_inlined None = same_text refl refl
indents_inlined (Some sp) = maybe _ _ (increases sp)

pub newline : (e : Env) (h : Here) {s : State} → Adds s (format_newline_reserved_word e h s) (strip (format_reserved_word e h.token.value))
unfolding format_newline_reserved_word
newline e h =
    chosen _ _ _ (indents_inlined _ then maybe _ _ trims then lines e) (blanked e) then word e h.token quietly blank e quietly indents _

-- an opening bracket, after its check for 6
pub opened : (e : Env) (h : Here) (info : BlockInfo) (s : State) → Adds (refuse_if (full s.indentation.indent_types) 6 (on_block_level suc s)) (format_opening_parentheses e h info s) (strip (format_reserved_word e h.token.value))
unfolding format_opening_parentheses
opened e h info s =
    inlines _ then maybe _ _ trims then maybe _ _ (blanked e) then maybe _ _ (trims_all then blank e)
    then indents _ then pushes e _ quietly chosen _ _ _ (lines e) (maybe _ _ (blank e))

pub opening : (e : Env) (h : Here) (info : BlockInfo) {s : State} → Adds s (format_opening_parentheses e h info s) (strip (format_reserved_word e h.token.value))
opening e h info {s} = levels suc then refuses _ 6 (omega arith, omega arith) then opened e h info s

pub closing : (e : Env) (h : Here) {s : State} → Adds s (format_closing_parentheses e h s) (strip (format_reserved_word e h.token.value))
unfolding format_closing_parentheses
closing e h =
    levels _ then indents _
    then chosen _ _ _ (inlines _ then chosen _ _ _ (blanked e then with_spaces e _) (space_after e _))
    (refuses _ 8 (omega arith, omega arith) then new_line_inner e _ then with_spaces e _)
