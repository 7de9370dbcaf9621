-- A placeholder shows what the rules show, hands its counter on, and says where it had it from. Assumes nothing.
use mathlib.Core.Path.{◌≡◌, sym, ap, ◌∙◌}
use mathlib.Core.Bool.{Bool}
use Rattle.std.specs.Prelude.{if◌then◌else◌}
use mathlib.Core.List.{List}
use Prim.Native.Nat.{ℕ, suc, ◌+◌, ◌≤◌, ◌<◌}
use native.Mathlib.Numerals.{add-one}
use native.Mathlib.Omega.{arith}
use lib.ListN.{length}
use Rattle.rules.specs.declared.Counts.{Counts}
use Rattle.rules.specs.declared.Token.{Token}
use Rattle.rules.specs.Words.{token_at, body_at}
use Rattle.rules.specs.Sheet.{body_part, key_read, params_of, env_of}
use Rattle.rules.specs.Params.{source, get, advances, offends}
use Rattle.rules.specs.Formatter.{format_placeholder}
use Rattle.ascii.specs.Part.{part as bytes}
use Rattle.text.specs.Held.{text_of, Laid}
use Rattle.text.specs.declared.Text.{Text as CodeText}
use Rattle.query.specs.Query
use Rattle.query.specs.declared.Value.{Value}
use Rattle.query.proofs.Halves as halves
use Rattle.around.proofs.Readable.{sheeted-readable}
use Rattle.params.specs.declared.Shown.{Shown}
use Rattle.places.proofs.Laws.{length_part}
use Rattle.tokens.specs.Placed.{Inside}
use Rattle.params.specs.Entries.{KeyIn, shown_of}
use Rattle.params.proofs.Shows.{key_in, value_in, shown-bytes, shown-inside, shown-source, shown-below, shown-index, shown-step}
use Rattle.state.specs.declared.State.{State as Code}
use Rattle.state.specs.declared.Context.{Context}
use Rattle.state.specs.Of.{word_of, state_of, Ready, env_in, here_in, Handled}
use Rattle.state.proofs.Below.{below_up}
use Rattle.params.specs.Found.{Below as Under}
use Rattle.rules.specs.Rows.{entry_word, row_of}
use Rattle.values.specs.On.{on_token, placed, with_index, RowIn}

module _ (s : List ℕ) (x : Context) (i : ℕ) (st : Code) (d : List ℕ) (ready : Ready s x i st d) where
  abbrev c : Counts
  c = x.counts

  -- ---- what the readers ask

  pub index-small : st.index < 4294967295
  index-small =
      let h = ready.here in
      let k = ready.steady.index in
      let f = ready.known.sheeted.few.tokens in
      omega arith

  module _ (k : Token) (e : k ≡ token_at s i) where
    pub key-known : KeyIn s (body_at c) k.key
    key-known = key_in s c k i ready.known.sheeted ready.here e

    module _ (shown : Shown) (m : shown ≡ shown_of s c k st.index) where
      place_inside : Inside s (body_at c) shown.place
      place_inside = shown-inside s c k st.index shown m ready.known.sheeted (value_in s c k i ready.known.sheeted ready.here e)

      inside : x.base + (shown.place.start + shown.place.len) ≤ length s
      inside = rw ready.known.base place_inside.inside

      -- there are fewer parameters than a word can count
      pub entry-few : Under 4294967295 shown.entry
      entry-few j q =
          let f = ready.known.sheeted.few.params in
          let b = shown-below s c k st.index shown m j q in
          omega arith

      -- its row
      pub by_row : (w : ℕ) → w ≡ entry_word (shown.entry) → RowIn s x i st d w shown.place.len
      unfolding row_of env_of state_of
      by_row w f =
          let from : shown.entry ≡ source (params_of s c) (key_read s x.base (token_at s i).key) st.index = rw (← e, ready.known.base) (shown-source s c k st.index shown m key-known) in
          record {
            entry = f ∙ ap entry_word from;
            len = sym (length_part s (body_at c) shown.place place_inside) ∙ rw (← e, ready.known.base) (ap length (shown-bytes s c k st.index shown m key-known));
            few = λ j q. entry-few j (from ∙ q);
          }

      pub start_small : x.base + shown.place.start ≤ 65536
      start_small = let f = (sheeted-readable s c ready.known.sheeted).short in let h = inside in omega arith

      module _ (v : Value) (w : v ≡ placed x.base shown.place) where
        pub shown-within : v.start + v.len ≤ length s
        shown-within = let h = inside in rw w (omega arith)

        -- ---- the rule

        shows : bytes s v.start v.len ≡ get (params_of s c) (key_read s x.base (token_at s i).key) st.index (word_of s x.base i)
        unfolding body_part
        shows = rw (w, ← e, ready.known.base) (shown-bytes s c k st.index shown m key-known)

        moves : shown.index ≡ (if advances (params_of s c) (key_read s x.base (token_at s i).key) then suc st.index else st.index)
        moves = rw (← e, ready.known.base) (rw add-one at (shown-index s c k st.index shown m))

        pub by-placeholder : (five : Bool) (t : CodeText) (q : List ℕ) → ((c : Counts) → five ≡ offends (params_of s c) (key_read s (body_at c) k.key))
            → Laid (length d) (Query.placeholder (length d) five (bytes s v.start v.len) (text_of st.text d)) t q → Handled s x i (on_token format_placeholder) st d (with_index st t shown.index) q
        unfolding state_of env_of
        by-placeholder five t q o laid =
            let a = ready.steady in
            let l = a.level in
            let offence : five ≡ offends (params_of s c) (key_read s x.base (token_at s i).key) = rw (← e, ready.known.base) (o c) in
            record {
              room = laid.room;
              steady = record { held = laid.held; stacks = a.stacks; words = below_up (omega arith) a.words; inlined = a.inlined; level = omega arith; index = shown-step s c k st.index shown m i a.index };
              state = rw (laid.text, offence, shows, moves) (sym (halves.placeholder (env_in s x (length d)) (here_in s x i) (state_of s x.base st d)));
            }
