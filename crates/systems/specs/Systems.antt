-- What a system means, its six laws, and its runs.
use Rattle.std.specs.Prelude.{◌≡◌, ℕ, ◌<◌, Bool, true, false, List, [], ◌∷◌}

-- the first state, the count of choices, and the reply to every question
pub record Meaning (S : Type 0) : Type 0 where
  pub first : S
  pub count : ℕ
  pub fits : S → Bool
  pub bad : S → Bool
  pub legal : S → ℕ → Bool
  pub next : S → ℕ → S
  pub same : S → S → Bool

pub record Lawful {S : Type 0} (m : Meaning S) : Type 0 where
  -- two states are the same exactly when they are equal
  pub same_equal : (x y : S) → m.same x y ≡ true → x ≡ y
  pub equal_same : (x : S) → m.same x x ≡ true
  -- the first state fits
  pub first_fits : m.fits m.first ≡ true
  -- a legal choice is below the count, at a state that fits and is not bad
  pub legal_below : (x : S) (c : ℕ) → m.legal x c ≡ true → c < m.count
  pub legal_fits : (x : S) (c : ℕ) → m.legal x c ≡ true → m.fits x ≡ true
  pub legal_good : (x : S) (c : ℕ) → m.legal x c ≡ true → m.bad x ≡ false
  -- the next state by a legal choice fits
  pub next_fits : (x : S) (c : ℕ) → m.legal x c ≡ true → m.fits (m.next x c) ≡ true
  -- a state that fits and is not bad has a legal choice
  pub goes_on : (x : S) → m.fits x ≡ true → m.bad x ≡ false → (c : ℕ) × (m.legal x c ≡ true)
  -- the next state by a choice that is not legal is the state itself
  pub stays : (x : S) (c : ℕ) → m.legal x c ≡ false → m.next x c ≡ x

-- the state to which a list of choices leads from a state
abbrev pub led : {S : Type 0} → Meaning S → S → List ℕ → S
led m x [] = x
led m x (c ∷ cs) = led m (m.next x c) cs

-- each choice is legal at the state to which those before it lead
abbrev pub Legal : {S : Type 0} → Meaning S → S → List ℕ → Type 0
Legal m x [] = Unit {0}
Legal m x (c ∷ cs) = (m.legal x c ≡ true) × Legal m (m.next x c) cs

-- a run: choices that are legal one after the other from the first state
abbrev pub Run : {S : Type 0} → Meaning S → List ℕ → Type 0
Run m cs = Legal m m.first cs

-- the last state of a run; of the empty run, the first
abbrev pub last : {S : Type 0} → Meaning S → List ℕ → S
last m cs = led m m.first cs

-- a run whose last state is bad
abbrev pub BadRun : {S : Type 0} → Meaning S → List ℕ → Type 0
BadRun m cs = Run m cs × (m.bad (last m cs) ≡ true)

-- no run, of any length, ends in a bad state, and every run can go on
pub record Safe {S : Type 0} (m : Meaning S) : Type 0 where
  pub never_bad : (cs : List ℕ) → Run m cs → m.bad (last m cs) ≡ false
  pub goes_on : (cs : List ℕ) → Run m cs → (c : ℕ) × (m.legal (last m cs) c ≡ true)
