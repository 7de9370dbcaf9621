-- The layout state, and the small steps that the handlers are chains of.
use Rattle.std.specs.Prelude.{if◌then◌else◌, Bool, false, List, [], ◌∷◌, ℕ}
use Rattle.rules.specs.declared.SpanInfo.{SpanInfo}
use Rattle.rules.specs.Base.{◌▹◌, full}
use Rattle.rules.specs.Sheet.{Env}
use Rattle.rules.specs.Text.{Text, fits, append, refuse, cut_blanks, cut_white, indent_of, is_on, new_line, closing_line}
use Rattle.rules.specs.Indentation.{Indentation, no_indentation, indent_level}
use Rattle.rules.specs.Indentation as indentation

-- inline_block: the lengths of the open inline blocks; block_level: the open level; index: the next parameter
pub record State : Type 0 where
  pub text : Text
  pub indentation : Indentation (List ℕ)
  pub inline_block : List ℕ
  pub block_level : ℕ
  pub index : ℕ

unfoldable pub start : State
start = record { text = fits 0 0 []; indentation = no_indentation; inline_block = []; block_level = 0; index = 0 }

unfoldable pub on_text : (Text → Text) → State → State
on_text f s = record { text = f s.text; indentation = s.indentation; inline_block = s.inline_block; block_level = s.block_level; index = s.index }

unfoldable pub on_indentation : (Indentation (List ℕ) → Indentation (List ℕ)) → State → State
on_indentation f s = record { text = s.text; indentation = f s.indentation; inline_block = s.inline_block; block_level = s.block_level; index = s.index }

unfoldable pub on_inline_block : (List ℕ → List ℕ) → State → State
on_inline_block f s = record { text = s.text; indentation = s.indentation; inline_block = f s.inline_block; block_level = s.block_level; index = s.index }

unfoldable pub on_block_level : (ℕ → ℕ) → State → State
on_block_level f s = record { text = s.text; indentation = s.indentation; inline_block = s.inline_block; block_level = f s.block_level; index = s.index }

unfoldable pub on_index : (ℕ → ℕ) → State → State
on_index f s = record { text = s.text; indentation = s.indentation; inline_block = s.inline_block; block_level = s.block_level; index = f s.index }

unfoldable pub refuse_if : Bool → ℕ → State → State
refuse_if b n s = on_text (λ w. if b then refuse n w else w) s

unfoldable pub push_str : Env → List ℕ → State → State
push_str e v s = on_text (append e.room v) s

unfoldable pub push : Env → ℕ → State → State
push e c s = push_str e (c ∷ []) s

unfoldable pub trim_spaces_end : State → State
trim_spaces_end s = on_text cut_blanks s

unfoldable pub trim_all_spaces_end : State → State
trim_all_spaces_end s = on_text cut_white s

-- one blank after what stands there
unfoldable pub one_blank : Env → State → State
one_blank e s = s ▹ trim_spaces_end ▹ push e 32

unfoldable pub get_indent : Env → Bool → State → List ℕ
get_indent e folded s = indent_of e.options.indent (indent_level folded s.indentation)

unfoldable pub add_new_line_inner : Env → Bool → State → State
add_new_line_inner e folded s = on_text (new_line e.room (is_on e.options.inline) (get_indent e folded s)) s

unfoldable pub add_new_line : Env → State → State
add_new_line e s = add_new_line_inner e false s

-- the new line that closes a line comment
unfoldable pub close_line_comment : Env → State → State
close_line_comment e s = on_text (closing_line e.room e.options.inline (get_indent e false s)) s

-- refusal 6 where the indent stack is full
unfoldable pub increase_top_level : SpanInfo → State → State
increase_top_level sp s =
    s ▹ refuse_if (full s.indentation.indent_types) 6 ▹ on_indentation (indentation.increase_top_level sp)
