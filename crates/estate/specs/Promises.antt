-- What is true of every division. Each is named by the contract of a function of this crate. Assumes nothing.
use Rattle.std.specs.Prelude.{◌≡◌, ℕ, suc, ◌+◌, ◌-◌, ◌*◌, ◌≤◌, max, true, List, [], ◌∷◌, length, IsTrue, ◌↔◌, slice_index, sum}
use Rattle.std.specs.List.{remove as without}
use Rattle.estate.specs.Two.{plainly}
use Rattle.estate.specs.Division.{divides, Agrees}
use Rattle.estate.specs.Cents.{in_cents, Pays}
use Rattle.estate.specs.Closed.{denominator, division}

-- a division is what agrees with the plain law between each two
abbrev pub AgreesWithLaw : Type 0
AgreesWithLaw = (d e : ℕ) (cs xs : List ℕ) → IsTrue (divides d e cs xs) ↔ Agrees d e cs xs

-- between two the plain law divides
abbrev pub PlainDivides : Type 0
PlainDivides =
    (e c k : ℕ) → e ≤ c + k → divides 2 e (c ∷ k ∷ []) (plainly e c k ∷ plainly e k c ∷ []) ≡ true

-- and whatever divides between two is what it gives
abbrev pub OnlyPlain : Type 0
OnlyPlain =
    (d e c k : ℕ) (xs : List ℕ) → divides d e (c ∷ k ∷ []) xs ≡ true → (2 * slice_index xs 0 ≡ d * plainly e c k) × (2 * slice_index xs 1 ≡ d * plainly e k c)

-- two divisions of the same among the same claims, in parts of whatever size, are the same
abbrev pub JustOne : Type 0
JustOne =
    (d f e i : ℕ) (cs xs ys : List ℕ) → divides d e cs xs ≡ true → divides f e cs ys ≡ true → slice_index xs i * f ≡ slice_index ys i * d

-- there is one, whatever is there and claimed, in parts of at most twice one more than there are creditors
abbrev pub ThereIsOne : Type 0
ThereIsOne =
    (e : ℕ) (cs : List ℕ) → e ≤ sum cs → (d : ℕ) × (xs : List ℕ) × (d ≤ 2 * suc (length cs)) × (divides d e cs xs ≡ true)

-- the closed form is one, in parts of at most twice the creditors
abbrev pub ClosedDivides : Type 0
ClosedDivides =
    (e : ℕ) (cs : List ℕ) → e ≤ sum cs → (denominator e cs ≤ max 1 (2 * length cs)) × (divides (denominator e cs) e cs (division e cs) ≡ true)

-- if more is there nobody gets less
abbrev pub MoreThere : Type 0
MoreThere =
    (d f e g i : ℕ) (cs xs ys : List ℕ) → e ≤ g → divides d e cs xs ≡ true → divides f g cs ys ≡ true → slice_index xs i * f ≤ slice_index ys i * d

-- who claims more gets no less, and loses no less
abbrev pub LargerClaims : Type 0
LargerClaims =
    (d e i j : ℕ) (cs xs : List ℕ) → divides d e cs xs ≡ true → slice_index cs i ≤ slice_index cs j → (slice_index xs i ≤ slice_index xs j) × (d * slice_index cs i - slice_index xs i ≤ d * slice_index cs j - slice_index xs j)

-- what each creditor loses of its claim
unfoldable pub losses : ℕ → List ℕ → List ℕ → List ℕ
losses d [] xs = []
losses d (c ∷ cs) [] = []
losses d (c ∷ cs) (x ∷ xs) = (d * c - x) ∷ losses d cs xs

-- what is lost is divided as that sum would be if it were there
abbrev pub LostAlike : Type 0
LostAlike =
    (d e : ℕ) (cs xs : List ℕ) → divides d e cs xs ≡ true → divides d (sum cs - e) cs (losses d cs xs) ≡ true

-- who is paid a whole number of cents and goes changes nothing for the others, whose rows are those without its place
abbrev pub WhoGoes : Type 0
WhoGoes =
    (d e i x : ℕ) (cs xs : List ℕ) → divides d e cs xs ≡ true → slice_index xs i ≡ d * x → divides d (e - x) (without cs i) (without xs i) ≡ true

-- whole cents add up, and nobody has a cent more or less than the share, or more than the claim
abbrev pub CentsAddUp : Type 0
CentsAddUp = (d e : ℕ) (cs xs : List ℕ) → divides d e cs xs ≡ true → Pays d e cs xs (in_cents d e xs)

-- whole cents do not depend on the parts that the shares are in
abbrev pub SameCents : Type 0
SameCents =
    (d f e : ℕ) (cs xs ys : List ℕ) → divides d e cs xs ≡ true → divides f e cs ys ≡ true → in_cents d e xs ≡ in_cents f e ys
