-- One more call of a reader, after bytes were read.
use Rattle.std.proofs.Common.{◌≡◌, ◌≤◌, ◌+◌, ℕ, List, ◌++◌, length, take, Option, Bool, true, false, ◌||◌, true≢false, refl, sym, ap, ◌∙◌, length-append}
use Rattle.std.proofs.KnownBytes.{Consumes-trans}
use Rattle.std.proofs.lemmas.List.{take-append-le, length-take-le}
use Rattle.std.specs.Io.KnownBytes.{Consumes}

-- the call filled `buf`, the prefix of a chunk, and the first n bytes of the chunk are appended
pub Consumes-call : (a b c : Option (List ℕ)) (taken buf rest : List ℕ) (n : ℕ) → n ≤ length buf
    → Consumes a b taken → Consumes b c (take n buf) → Consumes a c (taken ++ take n (buf ++ rest))
Consumes-call a b c taken buf rest n le before call =
    rw (take-append-le n buf rest le) (Consumes-trans a b c taken (take n buf) before call)

pub length-call : (taken buf rest : List ℕ) (n : ℕ) → n ≤ length buf → length (taken ++ take n (buf ++ rest)) ≡ length taken + n
length-call taken buf rest n le =
    rw (take-append-le n buf rest le) (length-append taken (take n buf) ∙ ap (λ k. length taken + k) (length-take-le n buf le))

-- if the flag is not set after a call, it was not set before, and the call did not fail
pub unmarked : (before failed after : Bool) → after ≡ (before || failed) → after ≡ false → (before ≡ false) × (failed ≡ false)
unmarked false failed after mark clear = (refl, sym mark ∙ clear)
unmarked true failed after mark clear = absurd (true≢false (sym mark ∙ clear))
