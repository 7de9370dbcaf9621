-- What a reader of at most n bytes gives to a list that was empty.
use Rattle.std.proofs.Common.{◌≡◌, Option, Some, None, IfSome, ℕ, List, [], ◌++◌, take}
use Rattle.std.specs.Option.{option_map}

pub first_bytes : (n limit : ℕ) (o rest : Option (List ℕ)) (start bytes : List ℕ) → limit ≡ n → rest ≡ o → start ≡ [] → IfSome (option_map (take limit) rest) (λ xs. bytes ≡ start ++ xs) → IfSome o (λ xs. bytes ≡ take n xs)
first_bytes n limit o None start bytes el eo es h = rw (← eo) h
first_bytes n limit o (Some xs) start bytes el eo es h = rw (← eo) (rw (el, es) at h)
