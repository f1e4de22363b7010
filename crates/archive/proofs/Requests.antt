-- The smallest bad serial, found from 0 on; lists as masks.
use Rattle.std.proofs.Common.{◌≡◌, ℕ, ap, ◌∙◌}
use mathlib.Core.Path.{fun_ext}
use Rattle.sets.specs.Bits.{Serials, bit}
use Rattle.sets.specs.Serials.{serials}
use Rattle.sets.specs.declared.set.SerialSet.{SerialSet}
use Rattle.weave.specs.Versions.{Lists}
use Rattle.weave.specs.Tables.{lists}
use Rattle.archive.specs.Requests.{lists_of}
use Rattle.archive.specs.declared.request.Request.{Request}

both : Serials → Serials → Lists
both i x = record { includes = i; excludes = x }

-- the lists of a request are those of its masks
pub lists_are : (r : Request) (i x : SerialSet) → ((k : ℕ) → serials i k ≡ bit r.includes k) → ((k : ℕ) → serials x k ≡ bit r.excludes k) → lists i x ≡ lists_of r
unfolding both
lists_are r i x ins outs = ap (λ (s : Serials). both s (serials x)) (fun_ext ins) ∙ ap (both (bit r.includes)) (fun_ext outs)
