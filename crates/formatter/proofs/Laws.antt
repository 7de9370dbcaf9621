-- The run over the tokens, step by step. Assumes nothing.
use mathlib.Core.Path.{◌≡◌, sym, ap, ◌∙◌}
use mathlib.Core.List.{List, [], map}
use mathlib.Core.Bool.{Bool}
use Prim.Native.Nat.{ℕ, ◌+◌, ◌-◌, ◌^◌, ◌≤◌, ◌<◌}
use native.Mathlib.Omega.{arith}
use lib.ListN.{length, take, drop}
use Rattle.rules.specs.declared.TokenKind.{TokenKind}
use Rattle.rules.specs.declared.Turn.{Turn}
use Rattle.rules.specs.declared.Turn.TheVariants as turn
use Rattle.rules.specs.declared.Sort.TheVariants as sort
use Rattle.rules.specs.declared.Report.{Report}
use Rattle.rules.specs.Text.{fits, refused, mark, bytes_in, change, is_white, trim_end, trimmed, lines, width}
use Rattle.rules.proofs.Short.{Short, sheet-short}
use Rattle.rules.proofs.Lengths.{length-trim_start}
use Rattle.around.proofs.Readable.{sheeted-readable}
use Rattle.rules.specs.Base.{◌▹◌}
use Rattle.rules.specs.Rows.{Row, clip, shift, trim_row}
use Rattle.rows.specs.Listing.{rows_in, listing}
use Rattle.rules.specs.Sheet.{token_of, tokens_from, tokens_before}
use Rattle.rules.specs.Nested.{Nested}
use Rattle.rules.proofs.Inner.{blocks-few}
use Rattle.rules.proofs.Nested.{nested-start, nested-next}
use Rattle.around.proofs.Lists.{tokens-step}
use Rattle.rules.specs.Span.{sort_of, sort_in}
use Rattle.ahead.proofs.Laws.{by-sort}
use Rattle.rules.specs.Indentation.{no_indentation}
use Rattle.rules.specs.State.{State, start, on_text}
use Rattle.rules.specs.Switch.{turn_of, switch_after, switched_on}
use Rattle.rules.specs.Answer.{Answer, refusal, taken_as, taken, unless_refused, finish, report, report_of, buffer_of}
use Rattle.text.specs.Held.{text_of, Held, code_of, bytes_of, Laid, marked}
use Rattle.text.specs.declared.Text.{Text as CodeText}
use Rattle.text.proofs.HeldLaws.{text-fits, text-refused, laid_same, held-marked, text-marked}
use Rattle.indentation.specs.Of as stacks
use Rattle.indentation.specs.declared.Indentation.{Indentation as Stacks}
use Rattle.inline_block.specs.Of as block
use Rattle.inline_block.specs.declared.InlineBlock.{InlineBlock}
use Rattle.fmt_switch.specs.Of.{switch_of}
use Rattle.fmt_switch.specs.declared.Switch.{Switch as CodeSwitch}
use Rattle.query.specs.declared.Value.{Value}
use Rattle.report.specs.Finished.{finished}
use Rattle.report.specs.declared.Finished.{Finished}
use Rattle.around.specs.Run.{run_from, turn_at, step_at}
use Rattle.around.proofs.Run.{run-turn, run_end, run-all}
use Rattle.state.specs.declared.State.{State as Code}
use Rattle.state.specs.declared.Context.{Context}
use Rattle.state.specs.Words.{on_words}
use Rattle.state.proofs.Words.{none-words}
use Rattle.state.proofs.Below.{none_below}
use Rattle.state.specs.Of.{value_in, word_of, state_of, with_text, Known, Steady, Ready, env_in, here_in, Handled}
use Rattle.state.proofs.Laws.{value-is}
use Rattle.formatter.specs.Run.{kind_in, answer_in, Begun, Stepped}

-- ---- the first state

pub by-begun : (cap : ℕ) (q : List ℕ) (t : CodeText) (i : Stacks) (b : InlineBlock) → Laid cap (fits 0 0 []) t q → stacks.Stands no_indentation i → block.Stands [] b
    → Begun (record { text = t; indentation = i; inline_block = b; block_level = 0; index = 0 }) cap q
unfolding state_of start code_of
by-begun cap q t i b p si sb =
    record {
      room = p.room;
      fine = ap (λ (x : CodeText). x.fault) p.code;
      steady = record {
        held = p.held;
        stacks = si.clean;
        words = rw si.is (none_below 0);
        inlined = sb.clean;
        level = omega arith;
        index = omega arith;
      };
      state = λ s base. rw (p.text, si.is, sb.is, none-words);
    }

-- ---- one token

pub level-few : (s : List ℕ) (x : Context) (i level : ℕ) → Known s x → i < x.counts.tokens → level ≤ i → level ≤ 1024
level-few s x i level known here h = let f = known.sheeted.few.tokens in omega arith

-- how it is taken
pub turn_is : (s : List ℕ) (x : Context) (i : ℕ) (w : CodeSwitch) (v : Value) (k : TokenKind) (t : Turn) → v ≡ value_in s x i → k ≡ kind_in s x i → t ≡ turn_of (switch_of w) k (take v.len (drop v.start s)) → t ≡ turn_at s x.base i (switch_of w)
turn_is s x i w v k t ev ek et = et ∙ rw (ek, value-is s x i v ev)

-- a kind that is always a top-level word
pub head-is : (s : List ℕ) (base i : ℕ) (k j : TokenKind) → ((semicolon comma : Bool) → sort_of j semicolon comma ≡ sort.Head) → k ≡ (token_of s base i).kind → k ≡ j → sort_in (token_of s base i) ≡ sort.Head
head-is s base i k j heads told e = sym (by-sort (token_of s base i) k told j e) ∙ heads _ _

pub by-step : (s : List ℕ) (x : Context) (i : ℕ) (st : Code) (w : CodeSwitch) (d : List ℕ) (t : Turn) (r : Code) (u : CodeSwitch) (q : List ℕ) (m : CodeText)
    → t ≡ turn_at s x.base i (switch_of w) → switch_of u ≡ switch_after t (switch_of w) → Handled s x i (taken_as t) (with_text st m) d r q → m ≡ marked st.text → Stepped s x i st w d r u q
by-step s x i st w d t r u q m e es h em = record { taken = rw (e, em) at h; switch = es ∙ rw e }

-- ---- the end

pub by-report : (d : List ℕ) (t : CodeText) (i : ℕ) (f : Finished) → t.fault ≡ 0 → f ≡ finished (text_of t d)
    → record { refusal = 0; place = 0; length = f.len; lines = f.lines; width = f.width } ≡ report_of (finish i (text_of t d))
unfolding finished finish unless_refused report report_of
by-report d t i f z e = rw (e, text-fits t d z)

pub by-buffer : (d q : List ℕ) (t : CodeText) (i : ℕ) → t.fault ≡ 0 → q ≡ bytes_of (length d) (change trimmed (text_of t d)) → q ≡ buffer_of (length d) (finish i (text_of t d))
unfolding bytes_of buffer_of finish unless_refused report
by-buffer d q t i z e = rw (text-fits t d z) (e ∙ rw (text-fits t d z))

-- the start is trimmed after the end
pub by-lead : (d : List ℕ) (t : CodeText) (f : Finished) → t.fault ≡ 0 → f ≡ finished (text_of t d) → f.len ≤ f.end
unfolding finished trimmed
by-lead d t f z e = rw (e, text-fits t d z) (length-trim_start is_white (trim_end is_white (take t.len d)))

pub by-trim : (d : List ℕ) (t : CodeText) (f : Finished) (l l' : List ℕ) (count : ℕ) → t.fault ≡ 0 → f ≡ finished (text_of t d)
    → l' ≡ listing (length l) (map (λ (q : Row). q ▹ clip f.end ▹ shift (f.end - f.len)) (rows_in count l)) → l' ≡ listing (length l) (map (trim_row (bytes_in (text_of t d))) (rows_in count l))
unfolding finished trim_row
by-trim d t f l l' count z e g = g ∙ rw (e, text-fits t d z)

-- ---- the run: what is left at token i is the whole answer

pub state-marked : (s : List ℕ) (x : Context) (st : Code) (d : List ℕ) → Held st.text d → state_of s x.base (with_text st (marked st.text)) d ≡ on_text mark (state_of s x.base st d)
unfolding state_of on_text
state-marked s x st d held = rw (text-marked st.text d held)

-- the state after token i is the rules'
pub stepped-is : (s : List ℕ) (x : Context) (i : ℕ) (st : Code) (w : CodeSwitch) (d : List ℕ) (r : Code) (u : CodeSwitch) (q : List ℕ) (cap : ℕ) → length d ≡ cap → Held st.text d
    → Stepped s x i st w d r u q → state_of s x.base r q ≡ step_at (env_in s x cap) s x.base x.counts.tokens i (switch_of w) (state_of s x.base st d)
unfolding taken
stepped-is s x i st w d r u q cap room held turn = rw room at turn.taken.state ∙ rw (state-marked s x st d held)

-- the answer of what is left at token i, in a buffer of cap bytes
abbrev pub left_at : List ℕ → Context → ℕ → ℕ → Code → CodeSwitch → List ℕ → Answer
left_at s x cap i st w q = run_from (env_in s x cap) s x.base x.counts.tokens i (switch_of w) (state_of s x.base (st) q)

pub by-start : (s : List ℕ) (x : Context) (st : Code) (w : CodeSwitch) (cap : ℕ) (q : List ℕ) → Known s x → Begun st cap q → switch_of w ≡ switched_on → left_at s x cap 0 st w q ≡ answer_in s x cap
by-start s x st w cap q known b e = rw (b.state s x.base, e, known.base) (sym (run-all (env_in s x cap) s x.counts))

module _ (s : List ℕ) (x : Context) (i : ℕ) (st : Code) (w : CodeSwitch) (d : List ℕ) (r : Code) (u : CodeSwitch) (q : List ℕ) (a : Answer) (cap : ℕ) (room : length d ≡ cap) (held : Held st.text d) (here : i < x.counts.tokens)
    (turn : Stepped s x i st w d r u q) (left : left_at s x cap i st w d ≡ a) where
  -- a turn of the rules' run
  turned : unless_refused (text_of r.text q) i (left_at s x cap (i + 1) r u q) ≡ a
  unfolding state_of
  turned =
      rw turn.switch (ap (λ (z : State). unless_refused z.text i (run_from (env_in s x cap) s x.base x.counts.tokens (i + 1) (switch_after (turn_at s x.base i (switch_of w)) (switch_of w)) z)) (stepped-is s x i st w d r u q cap room held turn)
      ∙ sym (run-turn (env_in s x cap) s x.base x.counts.tokens i (switch_of w) (state_of s x.base (st) d) here) ∙ left)

  pub by_turn : r.text.fault ≡ 0 → left_at s x cap (i + 1) r u q ≡ a
  unfolding unless_refused
  by_turn z = sym (rw (text-fits r.text q z)) ∙ turned

  pub refused-at : (r.text.fault ≡ 0 → ⊥) → a ≡ refusal r.text.fault i
  unfolding unless_refused
  refused-at z = sym turned ∙ rw (text-refused r.text q z)

  pub by-refused : (r.text.fault ≡ 0 → ⊥) → record { refusal = r.text.fault; place = i; length = 0; lines = 0; width = 0 } ≡ report_of a
  unfolding report_of
  by-refused z = rw (refused-at z)

  pub by-zeros : (r.text.fault ≡ 0 → ⊥) → q ≡ buffer_of cap a
  unfolding buffer_of bytes_of
  by-zeros z =
      let m = (laid_same r.text q turn.taken.steady.held).bytes in
      rw (refused-at z) (m ∙ rw (text-refused r.text q z, turn.taken.room, room))

-- the last token is taken
pub by_end : (s : List ℕ) (x : Context) (cap i : ℕ) (st : Code) (w : CodeSwitch) (q : List ℕ) (a : Answer) → x.counts.tokens ≤ i → left_at s x cap i st w q ≡ a → finish i (text_of st.text q) ≡ a
unfolding state_of
by_end s x cap i st w q a h left = sym (run_end (env_in s x cap) s x.base x.counts.tokens i (switch_of w) (state_of s x.base (st) q) h) ∙ left

-- ---- the loop

-- what holds at token i: the text is not refused, and what is left is the whole answer
pub record Running (s : List ℕ) (x : Context) (cap i : ℕ) (st : Code) (w : CodeSwitch) (q : List ℕ) : Type 0 where
  pub few : i ≤ x.counts.tokens
  pub room : length q ≡ cap
  pub fine : st.text.fault ≡ 0
  pub steady : Steady i (st) q
  pub left : left_at s x cap i st w q ≡ answer_in s x cap
  pub nested : Nested (switch_of w) (tokens_from s x.base i (x.counts.tokens - i)) (state_of s x.base st q)

pub run-starts : (s : List ℕ) (x : Context) (st : Code) (w : CodeSwitch) (cap : ℕ) (q : List ℕ) → Known s x → Begun st cap q → switch_of w ≡ switched_on → Running s x cap 0 st w q
run-starts s x st w cap q known b e = record { few = omega arith; room = b.room; fine = b.fine; steady = b.steady; left = by-start s x st w cap q known b e; nested = rw (b.state s x.base, e) (nested-start _) }

-- so many inline blocks are open, at most, as the indent stack has entries
pub run-under : (s : List ℕ) (x : Context) (cap i : ℕ) (st : Code) (w : CodeSwitch) (q : List ℕ) → Running s x cap i st w q → length (block.inline_block_of st.inline_block) ≤ length (stacks.indentation_of st.indentation).indent_types
unfolding state_of on_words
run-under s x cap i st w q run =
    let u = run.nested.under in
    let k = blocks-few (stacks.indentation_of st.indentation).indent_types in
    omega arith

pub run-ready : (s : List ℕ) (x : Context) (cap i : ℕ) (st : Code) (w : CodeSwitch) (q : List ℕ) (t : CodeText) → Known s x → i < x.counts.tokens → Running s x cap i st w q → t ≡ marked st.text → Ready s x i (with_text st t) q
run-ready s x cap i st w q t known here r e =
    let k = r.steady in
    record {
      known = known;
      here = here;
      steady = record { held = rw e (held-marked st.text q k.held); stacks = k.stacks; words = k.words; inlined = k.inlined; level = k.level; index = k.index };
    }

module _ (s : List ℕ) (x : Context) (cap i : ℕ) (st : Code) (w : CodeSwitch) (d : List ℕ) (r : Code) (u : CodeSwitch) (q : List ℕ) (run : Running s x cap i st w d) (here : i < x.counts.tokens) (turn : Stepped s x i st w d r u q) where
  -- the state after the token is the rules', so it keeps their invariant
  nested_goes : r.text.fault ≡ 0 → Nested (switch_of u) (tokens_from s x.base (i + 1) (x.counts.tokens - (i + 1))) (state_of s x.base r q)
  unfolding state_of
  nested_goes z =
      let is = stepped-is s x i st w d r u q cap run.room run.steady.held turn in
      let fits-now : (state_of s x.base r q).text ≡ fits r.text.floor r.text.low (take r.text.len q) = text-fits r.text q z in
      rw (turn.switch, is)
      (nested-next (env_in s x cap) (tokens_before s x.base i) (token_of s x.base i) (tokens_from s x.base (i + 1) (x.counts.tokens - (i + 1))) (switch_of w) (state_of s x.base st d)
      (rw (tokens-step s x.base i x.counts.tokens here) at run.nested) _ _ _ (ap (λ (y : State). y.text) (sym is) ∙ fits-now))

  pub run-goes : r.text.fault ≡ 0 → Running s x cap (i + 1) r u q
  run-goes z =
      record {
        few = omega arith;
        room = turn.taken.room ∙ run.room;
        fine = z;
        steady = turn.taken.steady;
        left = by_turn s x i st w d r u q (answer_in s x cap) cap run.room run.steady.held here turn run.left z;
        nested = nested_goes z;
      }

  pub run-refused : (r.text.fault ≡ 0 → ⊥) → record { refusal = r.text.fault; place = i; length = 0; lines = 0; width = 0 } ≡ report_of (answer_in s x cap)
  run-refused z = by-refused s x i st w d r u q (answer_in s x cap) cap run.room run.steady.held here turn run.left z

  pub run-zeros : (r.text.fault ≡ 0 → ⊥) → q ≡ buffer_of cap (answer_in s x cap)
  run-zeros z = by-zeros s x i st w d r u q (answer_in s x cap) cap run.room run.steady.held here turn run.left z

module _ (s : List ℕ) (x : Context) (cap i : ℕ) (st : Code) (w : CodeSwitch) (d q : List ℕ) (run : Running s x cap i st w d) (over : x.counts.tokens ≤ i) where
  pub run-reports : (p : Report) → p ≡ report_of (finish i (text_of st.text d)) → p ≡ report_of (answer_in s x cap)
  run-reports p e = e ∙ ap report_of (by_end s x cap i st w d (answer_in s x cap) over run.left)

  pub run-fills : q ≡ buffer_of (length d) (finish i (text_of st.text d)) → q ≡ buffer_of cap (answer_in s x cap)
  run-fills e = e ∙ rw (run.room, by_end s x cap i st w d (answer_in s x cap) over run.left)

-- the text is short: the width fits in 64 bits
short-end : (i : ℕ) (t : CodeText) (d : List ℕ) → t.fault ≡ 0 → Short (finish i (text_of t d)) → length (trimmed (bytes_in (text_of t d))) < 2 ^ 60
unfolding finish unless_refused report
short-end i t d z h = rw (text-fits t d z) (rw (text-fits t d z) at h)

pub run_short : (s : List ℕ) (x : Context) (cap i : ℕ) (st : Code) (w : CodeSwitch) (d : List ℕ) → Known s x → Running s x cap i st w d → x.counts.tokens ≤ i → length (trimmed (bytes_in (text_of st.text d))) < 2 ^ 60
run_short s x cap i st w d known run over =
    let h = known.sheeted in
    let a : Short (answer_in s x cap) = sheet-short s x.counts (sheeted-readable s x.counts h).short cap h.few.tokens h.options.indent h.options.lines in
    short-end i st.text d run.fine (rw (← by_end s x cap i st w d (answer_in s x cap) over run.left) at a)
