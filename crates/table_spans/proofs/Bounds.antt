-- Bounds on the reading back. Assumes nothing.
use mathlib.Core.Bool.{Bool, true, false}
use mathlib.Core.Path.{◌≡◌, refl}
use mathlib.Core.List.{List}
use Prim.Native.Nat.{ℕ, zero, suc, ◌+◌, ◌-◌, ◌*◌, ◌≤◌}
use native.Mathlib.Omega.{arith}
use lib.ListN.{length}
use Rattle.rules.specs.declared.Sort.{Sort}
use Rattle.rules.specs.declared.Sort.TheVariants as sort
use Rattle.rules.specs.Sheet.{list_of, token_of, tokens_from}
use Rattle.rules.specs.Span.{sort_in}
use Rattle.around.specs.Readable.{Readable}
use Rattle.around.proofs.Lists.{readable_length}
use Rattle.table_spans.specs.declared.Rest.{Rest}
use Rattle.table_spans.specs.declared.Rests.{Rests}
use Rattle.table_spans.specs.Back.{nothing, longer, inside_in, back_in, level_in, span_in, other_in, read_back, total_of, others_of, Few, FewRests}
use Rattle.table_spans.specs.Filling.{ReadFrom}

-- of k tokens, p bytes long
record Bounded (r : Rest) (k p : ℕ) : Type 0 where
  full : r.full ≤ p
  blocks : r.blocks ≤ k
  commas : r.commas ≤ k

none-bounded : (k p : ℕ) → Bounded nothing k p
none-bounded k p = record { full = omega arith; blocks = omega arith; commas = omega arith }

module _ (r : Rest) (k p : ℕ) (b : Bounded r k p) where
  longer-bounded : (len : ℕ) → Bounded (longer len r) (k + 1) (p + len)
  longer-bounded len = let f = b.full in let g = b.blocks in let c = b.commas in record { full = omega arith; blocks = omega arith; commas = omega arith }

  other-bounded : (len : ℕ) → Bounded (inside_in sort.Other len r) (k + 1) (p + len)
  other-bounded len = let f = b.full in let g = b.blocks in let c = b.commas in record { full = omega arith; blocks = omega arith; commas = omega arith }

  back-bounded : (outer : Bool) (d : ℕ) (x : Sort) (len : ℕ) → Bounded (back_in outer d x len r) (k + 1) (p + span_in x len)
  back-bounded outer zero sort.Open len = let f = b.full in let g = b.blocks in let c = b.commas in record { full = omega arith; blocks = omega arith; commas = omega arith }
  back-bounded true zero sort.Close len = longer-bounded len
  back-bounded false zero sort.Close len = none-bounded (k + 1) (p + len)
  back-bounded outer zero sort.Head len = none-bounded (k + 1) (p + len)
  back-bounded outer zero sort.White len = longer-bounded 1
  back-bounded outer zero sort.Semicolon len = none-bounded (k + 1) (p + len)
  back-bounded outer zero sort.Comma len = let f = b.full in let g = b.blocks in let c = b.commas in record { full = omega arith; blocks = omega arith; commas = omega arith }
  back-bounded outer zero sort.Other len = other-bounded len
  back-bounded outer (suc d) sort.Open len = longer-bounded len
  back-bounded outer (suc d) sort.Close len = longer-bounded len
  back-bounded outer (suc d) sort.Head len = longer-bounded len
  back-bounded outer (suc d) sort.White len = longer-bounded 1
  back-bounded outer (suc d) sort.Semicolon len = longer-bounded len
  back-bounded outer (suc d) sort.Comma len = longer-bounded len
  back-bounded outer (suc d) sort.Other len = other-bounded len

span_small : (x : Sort) (len : ℕ) → len ≤ 65536 → span_in x len ≤ 65536
span_small sort.Open len h = h
span_small sort.Close len h = h
span_small sort.Head len h = h
span_small sort.White len h = omega arith
span_small sort.Semicolon len h = h
span_small sort.Comma len h = h
span_small sort.Other len h = h

other-small : (x : Sort) → other_in x ≤ 1
other-small sort.Open = omega arith
other-small sort.Close = omega arith
other-small sort.Head = omega arith
other-small sort.White = omega arith
other-small sort.Semicolon = omega arith
other-small sort.Comma = omega arith
other-small sort.Other = omega arith

-- ---- k tokens from the j-th of n on

read-bounded : (s : List ℕ) (base : ℕ) (outer : Bool) (k j d : ℕ) → Bounded (read_back outer d (tokens_from s base j k)) k (total_of (tokens_from s base j k))
unfolding list_of read_back total_of
read-bounded s base outer zero j d = none-bounded 0 0
read-bounded s base outer (suc k) j d =
    let t = token_of s base j in
    let x = sort_in t in
    let e : suc k ≡ k + 1 = omega arith in
    rw e
    (back-bounded _ k (total_of (tokens_from s base (suc j) k)) (read-bounded s base outer k (suc j) (level_in x d)) outer d x (length t.value))

others-bounded : (s : List ℕ) (base k j : ℕ) → others_of (tokens_from s base j k) ≤ k
unfolding list_of others_of
others-bounded s base zero j = omega arith
others-bounded s base (suc k) j =
    let h = others-bounded s base k (suc j) in
    let o = other-small (sort_in (token_of s base j)) in omega arith

total-bounded : (s : List ℕ) (base n k j : ℕ) → Readable s base n → k ≤ n - j → total_of (tokens_from s base j k) ≤ 65536 * k
unfolding list_of total_of
total-bounded s base n zero j r h = omega arith
total-bounded s base n (suc k) j r h =
    let t = token_of s base j in
    let l = readable_length s base n j (length t.value) r (omega arith) refl in
    let m = span_small (sort_in t) (length t.value) l in
    let i = total-bounded s base n k (suc j) r (omega arith) in omega arith

-- ---- so no sum wraps

module _ (d : ℕ) (s : List ℕ) (base n j : ℕ) (f : Rests) (r : Readable s base n) (h : ReadFrom d s base n j f) where
  few-rest : (outer : Bool) (u : Rest) → u ≡ read_back outer d (tokens_from s base j (n - j)) → Few u
  few-rest outer u e =
      let b = read-bounded s base outer (n - j) j d in
      let x = b.full in
      let y = b.blocks in
      let z = b.commas in
      let t = total-bounded s base n (n - j) j r (omega arith) in
      let k = r.placed.few in rw e (record { full = omega arith; blocks = omega arith; commas = omega arith })

  pub few-read : FewRests f
  few-read =
      let t = total-bounded s base n (n - j) j r (omega arith) in
      let o = others-bounded s base (n - j) j in
      let k = r.placed.few in
      let p = h.total in
      let q = h.others in
      let c = h.close.to in
      record { inner = few-rest false f.inner h.inner; outer = few-rest true f.outer h.outer; total = omega arith; others = omega arith; close = omega arith }
