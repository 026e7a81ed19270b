-- What is written of the shares of a division. Assumes nothing.
use Rattle.std.specs.Prelude.{ℕ, List, map}
use Rattle.level.specs.Words.{held}
use Rattle.level.specs.Terms.{parts_of, share_by}
use Rattle.level.specs.declared.closed.Terms.{Terms}
use Rattle.shares.specs.declared.written.Shares.{Shares}

-- the parts of a cent, and what a claim gets on these terms, as words hold them
abbrev pub parts_word : Terms → ℕ
parts_word t = held (parts_of t)

abbrev pub share_word : Terms → ℕ → ℕ
share_word t c = held (share_by t c)

-- what each claim gets, in the order of the claims
abbrev pub shares_on : Terms → List ℕ → List ℕ
shares_on t cs = map (share_word t) cs

abbrev pub shares_of : Shares → List ℕ
shares_of s = shares_on s.terms s.claims.now
