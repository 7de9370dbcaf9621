-- Wish 7: the layout calls with a table of m words, six for each token. Refusal 12 comes after 4 and 14 and before 10; else the answer is the plain call's.
use Rattle.rules.specs.declared.Counts.{Counts}
use Rattle.rules.specs.declared.Offence.{Offence}
use Rattle.std.specs.Prelude.{if◌then◌else◌, Bool, true, false, not, ◌&&◌, List, ℕ, ◌*◌, ltb, replicate, Err, Ok, Result}
use Rattle.rules.specs.Checks.{checked}
use Rattle.rules.specs.Answer.{Answer, refusal, is_withdrawn, answer}
use Rattle.rules.specs.Rows.{listed, list_after}

-- of a sheet that is withdrawn nothing is laid out, and no table is asked for
unfoldable pub lacks_table : List ℕ → ℕ → Result Counts Offence → Bool
lacks_table s m (Ok c) = not (is_withdrawn s) && ltb m (6 * c.tokens)
lacks_table s m (Err o) = false

-- with a table (true) that is too short: 12; else what follows
unfoldable pub once_as : List ℕ → Bool → ℕ → Result Counts Offence → Answer → Answer
once_as s t m c later = if t && lacks_table s m c then refusal 12 0 else later

unfoldable pub once : List ℕ → ℕ → ℕ → Answer
once s room m = once_as s true m (checked s) (answer s room)

unfoldable pub once_listed : List ℕ → ℕ → ℕ → ℕ → Answer
once_listed s room k m = once_as s true m (checked s) (listed s room k)

-- the list of k words afterwards
unfoldable pub list_once_as : List ℕ → Bool → ℕ → Result Counts Offence → ℕ → List ℕ → List ℕ
list_once_as s t m c k later = if t && lacks_table s m c then replicate k 0 else later

unfoldable pub once_list : List ℕ → ℕ → ℕ → ℕ → List ℕ
once_list s room k m = list_once_as s true m (checked s) k (list_after s room k)
