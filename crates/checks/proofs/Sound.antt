-- A sheet that is sound can be read.
use Rattle.rules.specs.declared.Offence.{Offence}
use Rattle.rules.specs.declared.Offence.TheVariants as offence
use Rattle.std.specs.Prelude.{None, Option, Some, ℕ, Result, Ok}
use mathlib.Core.Path.{◌≡◌, refl, sym, ◌∙◌}
use mathlib.Core.List.{List}
use Prim.Native.Nat.{ℕ, ◌+◌, ◌*◌}
use native.Mathlib.Omega.{arith}
use lib.Dec.{eqb, leb}
use lib.ListN.{length}
use borrow.Author.Tests.{leb-true, eqb-true}
use Rattle.rules.specs.declared.Counts.{Counts}
use Rattle.rules.specs.Words.{counts_of, tokens_at, params_at, keeps_at, body_at}
use Rattle.rules.specs.Checks.{demanded, or_later, first_of, counts_fit, sizes, head_words, token_words, param_words, words, token_places, param_places, keep_places, places, body_bytes, refused_as, checked_as, checked}
use Rattle.records.specs.Sheeted.{Sheeted}
use Rattle.checks.proofs.Passes.{demanded-holds, or_neither, none_of, fit-few, head-options, head-mode, token-words, nameless, token-within, keep-inside, param-inside, none-ascii}
use Rattle.checks.specs.Sound.{Sized}

-- a sheet that is sound was not refused
past : (refusal : ℕ → Offence) (o : Option ℕ) (later : Result Counts Offence) (c : Counts) → refused_as refusal o later ≡ Ok c → (o ≡ None) × (later ≡ Ok c)
past refusal (Some p) later c h = cc
past refusal None later c h = (refl, h)

-- the four checks find nothing
record Passed (s : List ℕ) (c : Counts) : Type 0 where
  pub sizes_found : sizes s ≡ None
  pub words_pass : words s c ≡ None
  pub places_pass : places s c ≡ None
  pub bytes_pass : body_bytes s c ≡ None

passed : (s : List ℕ) (c : Counts) → checked s ≡ Ok c → Passed s (counts_of s) × (counts_of s ≡ c)
unfolding checked checked_as
passed s c h =
    let k = counts_of s in
    let t3 = refused_as offence.Byte (body_bytes s k) (Ok k) in
    let t2 = refused_as offence.Place (places s k) t3 in
    let h1 = past (λ p. offence.Size) (sizes s) (refused_as offence.Word (words s k) t2) c h in
    let h2 = past offence.Word (words s k) t2 c h1.1 in
    let h3 = past offence.Place (places s k) t3 c h2.1 in
    let h4 = past offence.Byte (body_bytes s k) (Ok k) c h3.1 in
    (record { sizes_found = h1.0; words_pass = h2.0; places_pass = h3.0; bytes_pass = h4.0 }, cc)

-- check 1 finds nothing
pub sizes-pass : (s : List ℕ) → sizes s ≡ None → Sized s (counts_of s)
sizes-pass s h =
    let k = counts_of s in
    let l3 = demanded (eqb (length s) (body_at k + k.bytes)) 0 None in
    let one = demanded-holds (leb 48 (length s)) 0 (demanded (counts_fit k) 0 l3) h in
    let two = demanded-holds (counts_fit k) 0 l3 one.1 in
    let three = demanded-holds (eqb (length s) (body_at k + k.bytes)) 0 None two.1 in
    record { head_in = leb-true _ _ one.0; counted = refl; few = fit-few k two.0; long = eqb-true _ _ three.0 }

-- as a match on the answer of `check_size` has it
pub answer-sized : (s : List ℕ) (o : Option ℕ) (c : Counts) → o ≡ sizes s → o ≡ None → c ≡ counts_of s → Sized s c
answer-sized s o c e n k = rw k (sizes-pass s (sym e ∙ n))

module _ (s : List ℕ) (h : Passed s (counts_of s)) where
  sheeted : Sheeted s (counts_of s)
  sheeted =
      let k = counts_of s in
      let base = body_at k in
      let size = sizes-pass s h.sizes_found in
      let few = size.few in
      let long = size.long in
      let tw = first_of (token_words s) 20 tokens_at k.tokens in
      let pw = first_of (param_words s) 16 (params_at k) k.params in
      let tp = first_of (token_places s k.bytes) 20 tokens_at k.tokens in
      let pp = first_of (param_places s k.bytes) 16 (params_at k) k.params in
      let kp = first_of (keep_places s k.bytes) 8 (keeps_at k) k.keeps in
      let head = or_neither (head_words s) (or_later tw pw) h.words_pass in
      let ws = or_neither tw pw head.1 in
      let ps = or_neither tp (or_later pp kp) h.places_pass in
      let qs = or_neither pp kp ps.1 in
      record {
        counted = refl;
        few = few;
        long = long;
        options = head-options s head.0 size.head_in;
        mode = head-mode s head.0;
        tokens = record {
          few = few.tokens;
          within = λ i l. token-within s base k.bytes long i (omega arith) (none_of (token_places s k.bytes) 20 tokens_at k.tokens ps.0 i l);
        };
        words = λ i l. token-words s (tokens_at + 20 * i) (none_of (token_words s) 20 tokens_at k.tokens ws.0 i l);
        params = record {
          few = few.params;
          within = λ i l.
              let at = params_at k + 16 * i in
              let t = param-inside s base k.bytes long at (none_of (param_places s k.bytes) 16 (params_at k) k.params qs.0 i l) in
              record {
                record_in = omega arith;
                name_in = t.0;
                value_in = t.1;
                nameless = nameless s at (none_of (param_words s) 16 (params_at k) k.params ws.1 i l);
              };
        };
        keeps = record {
          few = few.keeps;
          within = λ i l. record {
            record_in = omega arith;
            place_in = keep-inside s base k.bytes long (keeps_at k + 8 * i) (none_of (keep_places s k.bytes) 8 (keeps_at k) k.keeps qs.1 i l);
          };
        };
        ascii = none-ascii s base k.bytes h.bytes_pass;
      }

-- what `check` calls sound meets what the readers ask
pub sound-sheeted : (s : List ℕ) (c : Counts) → checked s ≡ Ok c → Sheeted s c
sound-sheeted s c h = let p = passed s c h in rw p.1 at (sheeted s p.0)

-- the same, as a match on the answer of `check` has it
pub answer-sheeted : (s : List ℕ) (k : Result Counts Offence) (c : Counts) → k ≡ checked s → k ≡ Ok c → Sheeted s c
answer-sheeted s k c e h = sound-sheeted s c (sym e ∙ h)
