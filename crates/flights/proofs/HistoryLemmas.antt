-- Flights while others are asked, land and are lost, and while invalidations begin.
use Rattle.std.proofs.Common.{◌≡◌, ◌≢◌, ℕ, zero, suc, ◌<◌, ◌≤◌, ◌++◌, ◌||◌, Bool, true, false, List, [], ◌∷◌, map, Option, Some, None, refl, sym, ◌∙◌, ap, arith, if◌then◌else◌, eq-eqb, ne_eqb}
use Rattle.std.specs.Prelude.{◌==◌, IsSome, option_map, remove, slice_get}
use Rattle.std.specs.List.{list_any}
use Rattle.std.proofs.lemmas.Bool.{eqb-true}
use Rattle.std.proofs.Math.Bool.{or_assoc}
use Rattle.cover_rules.specs.declared.page.PageKey.{PageKey}
use Rattle.cover_rules.specs.declared.stamp.Stamp.{Stamp}
use Rattle.cover_rules.specs.declared.invalidation.Invalidation.{Invalidation}
use Rattle.cover_rules.specs.Coverage.{covers}
use Rattle.flights.specs.declared.flight.Flight.{Flight}
use Rattle.flights.specs.declared.landing.Landing.{Landing}
use Rattle.flights.specs.declared.landing.Landing.TheVariants.{Clear, Voided, Unkeyed}
use Rattle.flights.specs.Flights.{AreRising, after_invalidation, after_invalidations, covers_page, flight_at, numbers_of, without}
use Rattle.flights.specs.Landings.{LandsAs}

-- ---- by number
pub at-new : (f : Flight) (fs : List Flight) → flight_at f.number fs ≡ None → flight_at f.number (fs ++ f ∷ []) ≡ Some f
at-new f [] none = rw (eq-eqb f.number f.number refl)
at-new f (g ∷ fs) none = by_test (g.number == f.number) none (at-new f fs)
  where
    by_test : (b : Bool) → (if b then Some g else flight_at f.number fs) ≡ None → (flight_at f.number fs ≡ None → flight_at f.number (fs ++ f ∷ []) ≡ Some f) → (if b then Some g else flight_at f.number (fs ++ f ∷ [])) ≡ Some f
    by_test true e rest = absurd (let no : ⊥ = cc in no)
    by_test false e rest = rest e

pub at-asked_other : (n : ℕ) (other : Flight) (fs : List Flight) → n ≢ other.number → flight_at n (fs ++ other ∷ []) ≡ flight_at n fs
at-asked_other n other [] ne = (rw (ne_eqb other.number n (λ e. ne (sym e))))
at-asked_other n other (g ∷ fs) ne = ap (λ (o : Option Flight). if g.number == n then Some g else o) (at-asked_other n other fs ne)

pub at-without_other : (n other : ℕ) (fs : List Flight) → n ≢ other → flight_at n (without other fs) ≡ flight_at n fs
at-without_other n other [] ne = refl
at-without_other n other (g ∷ fs) ne = by_test (g.number == other) refl (at-without_other n other fs ne)
  where
    by_test : (b : Bool) → (g.number == other) ≡ b → flight_at n (without other fs) ≡ flight_at n fs → flight_at n (if b then fs else g ∷ without other fs) ≡ flight_at n (g ∷ fs)
    by_test true is rest = (rw (ne_eqb g.number n (λ e. ne (sym e ∙ eqb-true g.number other is))))
    by_test false is rest = ap (λ (o : Option Flight). if g.number == n then Some g else o) rest

pub at-after : (n level : ℕ) (inv : Invalidation) (fs : List Flight) → flight_at n (map (after_invalidation level inv) fs) ≡ option_map (after_invalidation level inv) (flight_at n fs)
at-after n level inv [] = refl
at-after n level inv (g ∷ fs) = by_test (g.number == n) (at-after n level inv fs)
  where
    by_test : (b : Bool) → flight_at n (map (after_invalidation level inv) fs) ≡ option_map (after_invalidation level inv) (flight_at n fs) → (if b then Some (after_invalidation level inv g) else flight_at n (map (after_invalidation level inv) fs)) ≡ option_map (after_invalidation level inv) (if b then Some g else flight_at n fs)
    by_test true rest = refl
    by_test false rest = rest

-- ---- numbers that rise
rising-lower : (a b : ℕ) (fs : List Flight) (most : ℕ) → b ≤ a → AreRising a fs most → AreRising b fs most
rising-lower a b [] most l rising = omega (arith, l, rising)
rising-lower a b (f ∷ fs) most l rising = (omega (arith, l, rising.0), rising.1)

rising-most : (least : ℕ) (fs : List Flight) (most : ℕ) → AreRising least fs most → least ≤ most
rising-most least [] most rising = rising
rising-most least (f ∷ fs) most rising = let rest : f.number ≤ most = rising-most f.number fs most rising.1 in omega (arith, rising.0, rest)

pub rising-more : (least most : ℕ) (f : Flight) (fs : List Flight) → AreRising least fs most → most < f.number → AreRising least (fs ++ f ∷ []) f.number
rising-more least most f [] rising l = (omega (arith, rising, l), omega arith)
rising-more least most f (g ∷ fs) rising l = (rising.0, rising-more g.number most f fs rising.1 l)

pub rising-after : (least most level : ℕ) (inv : Invalidation) (fs : List Flight) → AreRising least fs most → AreRising least (map (after_invalidation level inv) fs) most
rising-after least most level inv [] rising = rising
rising-after least most level inv (f ∷ fs) rising = (rising.0, rising-after f.number most level inv fs rising.1)

pub rising-without : (least n most : ℕ) (fs : List Flight) → AreRising least fs most → AreRising least (without n fs) most
rising-without least n most [] rising = rising
rising-without least n most (f ∷ fs) rising = by_test (f.number == n) (rising-without f.number n most fs rising.1)
  where
    by_test : (b : Bool) → AreRising f.number (without n fs) most → AreRising least (if b then fs else f ∷ without n fs) most
    by_test true rest = let above : least < f.number = rising.0 in rising-lower f.number least fs most (omega (arith, above)) rising.1
    by_test false rest = (rising.0, rest)

pub at-above : (least n most : ℕ) (fs : List Flight) → AreRising least fs most → most < n → flight_at n fs ≡ None
at-above least n most [] rising l = refl
at-above least n most (f ∷ fs) rising l =
    let within : f.number ≤ most = rising-most f.number fs most rising.1 in
    let other : f.number ≢ n = λ same. let equal : f.number ≡ n = same in omega (arith, within, l, equal) in
    (rw (ne_eqb f.number n other) (at-above f.number n most fs rising.1 l))

at-below : (n least most : ℕ) (fs : List Flight) → n ≤ least → AreRising least fs most → flight_at n fs ≡ None
at-below n least most [] l rising = refl
at-below n least most (f ∷ fs) l rising =
    let above : least < f.number = rising.0 in
    let other : f.number ≢ n = λ same. let equal : f.number ≡ n = same in omega (arith, l, above, equal) in
    (rw (ne_eqb f.number n other) (at-below n f.number most fs (omega (arith, l, above)) rising.1))

pub at-spent : (least n most : ℕ) (fs : List Flight) → AreRising least fs most → flight_at n (without n fs) ≡ None
at-spent least n most [] rising = refl
at-spent least n most (f ∷ fs) rising = by_test (f.number == n) refl (at-spent f.number n most fs rising.1)
  where
    by_test : (b : Bool) → (f.number == n) ≡ b → flight_at n (without n fs) ≡ None → flight_at n (if b then fs else f ∷ without n fs) ≡ None
    by_test true is rest = let equal : f.number ≡ n = eqb-true f.number n is in at-below n f.number most fs (omega (arith, equal)) rising.1
    by_test false is rest = (rw is rest)

-- ---- the places of numbers
pub numbers-asked : (f : Flight) (fs : List Flight) → numbers_of (fs ++ f ∷ []) ≡ numbers_of fs ++ f.number ∷ []
numbers-asked f [] = refl
numbers-asked f (g ∷ fs) = ap (λ (ns : List ℕ). g.number ∷ ns) (numbers-asked f fs)

pub numbers-after : (level : ℕ) (inv : Invalidation) (fs : List Flight) → numbers_of (map (after_invalidation level inv) fs) ≡ numbers_of fs
numbers-after level inv [] = refl
numbers-after level inv (f ∷ fs) = ap (λ (ns : List ℕ). f.number ∷ ns) (numbers-after level inv fs)

pub at-number : (n place : ℕ) (fs : List Flight) → slice_get (numbers_of fs) place ≡ Some n → IsSome (flight_at n fs)
at-number n place [] at = absurd (let no : ⊥ = cc in no)
at-number n zero (f ∷ fs) at = let same : f.number ≡ n = cc in (rw (eq-eqb f.number n same))
at-number n (suc place) (f ∷ fs) at = by_test (f.number == n) (at-number n place fs at)
  where
    by_test : (b : Bool) → IsSome (flight_at n fs) → IsSome (if b then Some f else flight_at n fs)
    by_test true rest = refl
    by_test false rest = rest

number-above : (least n place most : ℕ) (fs : List Flight) → AreRising least fs most → slice_get (numbers_of fs) place ≡ Some n → least < n
number-above least n place most [] rising at = absurd (let no : ⊥ = cc in no)
number-above least n zero most (f ∷ fs) rising at = let same : f.number ≡ n = cc in let above : least < f.number = rising.0 in omega (arith, same, above)
number-above least n (suc place) most (f ∷ fs) rising at =
    let rest : f.number < n = number-above f.number n place most fs rising.1 at in
    let above : least < f.number = rising.0 in
    omega (arith, rest, above)

pub numbers-without : (least n most place : ℕ) (fs : List Flight) → AreRising least fs most → slice_get (numbers_of fs) place ≡ Some n → numbers_of (without n fs) ≡ remove (numbers_of fs) place
numbers-without least n most place [] rising at = absurd (let no : ⊥ = cc in no)
numbers-without least n most zero (f ∷ fs) rising at = let same : f.number ≡ n = cc in (rw (eq-eqb f.number n same))
numbers-without least n most (suc place) (f ∷ fs) rising at =
    let above : f.number < n = number-above f.number n place most fs rising.1 at in
    let other : f.number ≢ n = λ same. let equal : f.number ≡ n = same in omega (arith, above, equal) in
    (rw (ne_eqb f.number n other) (ap (λ (ns : List ℕ). f.number ∷ ns) (numbers-without f.number n most place fs rising.1 at)))

-- ---- invalidations
or-false : (b : Bool) → b ≡ (b || false)
or-false true = refl
or-false false = refl

pub key-after : (level : ℕ) (invs : List Invalidation) (f : Flight) → (after_invalidations level invs f).key ≡ f.key
key-after level [] f = refl
key-after level (inv ∷ invs) f = key-after level invs (after_invalidation level inv f)

pub stamp-after : (level : ℕ) (invs : List Invalidation) (f : Flight) → (after_invalidations level invs f).stamp ≡ f.stamp
stamp-after level [] f = refl
stamp-after level (inv ∷ invs) f = stamp-after level invs (after_invalidation level inv f)

voided-after : (level : ℕ) (invs : List Invalidation) (f : Flight) → (after_invalidations level invs f).voided ≡ (f.voided || list_any (λ inv. covers_page level f.auto inv f.key) invs)
voided-after level [] f = or-false f.voided
voided-after level (inv ∷ invs) f = voided-after level invs (after_invalidation level inv f) ∙ or_assoc f.voided (covers_page level f.auto inv f.key) (list_any (λ i. covers_page level f.auto i f.key) invs)

-- of a flight that is for a page
voided-page : (level : ℕ) (invs : List Invalidation) (f : Flight) (key : PageKey) → f.key ≡ Some key → (after_invalidations level invs f).voided ≡ (f.voided || list_any (λ inv. covers level f.auto inv key) invs)
voided-page level invs f key is = voided-after level invs f ∙ ap (λ (k : Option PageKey). f.voided || list_any (λ inv. covers_page level f.auto inv k) invs) is

pub lands-clear : (level : ℕ) (invs : List Invalidation) (f : Flight) (key : PageKey) (landing : Landing) → f.key ≡ Some key → (f.voided || list_any (λ inv. covers level f.auto inv key) invs) ≡ false → LandsAs (after_invalidations level invs f) landing → landing ≡ Clear (record { key = key; stamp = f.stamp })
lands-clear level invs f key (Clear clear) is none lands =
    let found : Some clear.key ≡ Some key = sym lands.1 ∙ key-after level invs f ∙ is in
    let same : clear.key ≡ key = cc in
    let at : clear.stamp ≡ f.stamp = lands.2 ∙ stamp-after level invs f in
    ap (λ (k : PageKey). Clear (record { key = k; stamp = clear.stamp })) same ∙ ap (λ (s : Stamp). Clear (record { key = key; stamp = s })) at
lands-clear level invs f key (Voided k) is none lands = absurd (let both : true ≡ false = sym lands.0 ∙ voided-page level invs f key is ∙ none in let no : ⊥ = cc in no)
lands-clear level invs f key Unkeyed is none lands = absurd (let both : None ≡ Some key = sym lands ∙ key-after level invs f ∙ is in let no : ⊥ = cc in no)

pub lands-voided : (level : ℕ) (invs : List Invalidation) (f : Flight) (key : PageKey) (landing : Landing) → f.key ≡ Some key → (f.voided || list_any (λ inv. covers level f.auto inv key) invs) ≡ true → LandsAs (after_invalidations level invs f) landing → landing ≡ Voided key
lands-voided level invs f key (Clear clear) is some lands = absurd (let both : false ≡ true = sym lands.0 ∙ voided-page level invs f key is ∙ some in let no : ⊥ = cc in no)
lands-voided level invs f key (Voided k) is some lands =
    let found : Some k ≡ Some key = sym lands.1 ∙ key-after level invs f ∙ is in
    let same : k ≡ key = cc in
    ap (λ (l : PageKey). Voided l) same
lands-voided level invs f key Unkeyed is some lands = absurd (let both : None ≡ Some key = sym lands ∙ key-after level invs f ∙ is in let no : ⊥ = cc in no)

pub lands-unkeyed : (level : ℕ) (invs : List Invalidation) (f : Flight) (landing : Landing) → f.key ≡ None → LandsAs (after_invalidations level invs f) landing → landing ≡ Unkeyed
lands-unkeyed level invs f (Clear clear) is lands = absurd (let both : Some clear.key ≡ None = sym lands.1 ∙ key-after level invs f ∙ is in let no : ⊥ = cc in no)
lands-unkeyed level invs f (Voided k) is lands = absurd (let both : Some k ≡ None = sym lands.1 ∙ key-after level invs f ∙ is in let no : ⊥ = cc in no)
lands-unkeyed level invs f Unkeyed is lands = refl
