-- A call's outcome by its lines: what holds of whatever it does, and what a success says of each line.
use Rattle.std.proofs.Common.{◌≡◌, Bool, true, false, Option, Some, None, Ok, Err, refl, ap, subst}
use Rattle.vx_base.specs.declared.refusal.Refusal.{Refusal}
use Rattle.vx_space.specs.Outcome.{Maybe, unless, ◌>>=◌, need}

-- ---- whatever a call does

abbrev pub Always : {A : Type 0} → Maybe A → (A → Type 0) → Type 0
Always (Ok x) P = P x
Always (Err why) P = Unit {0}

pub where_holds : {A : Type 0} (b : Bool) (why : Refusal) (rest : Maybe A) (P : A → Type 0) → Always rest P → Always (unless b why rest) P
where_holds true why rest P h = h
where_holds false why rest P h = tt

-- the rest, by what always holds before it
pub then_always : {A B : Type 0} (m : Maybe A) (rest : A → Maybe B) (Q : A → Type 0) (P : B → Type 0) → Always m Q → ((x : A) → Q x → Always (rest x) P) → Always (m >>= rest) P
then_always (Ok x) rest Q P first h = h x first
then_always (Err why) rest Q P first h = tt

-- what follows from what always holds
pub more_always : {A : Type 0} (m : Maybe A) (Q P : A → Type 0) → Always m Q → ((x : A) → Q x → P x) → Always m P
more_always (Ok x) Q P first h = h x first
more_always (Err why) Q P first h = tt

pub always_ok : {A : Type 0} (m : Maybe A) (P : A → Type 0) (x : A) → Always m P → m ≡ Ok x → P x
always_ok (Ok y) P x h e = let same : y ≡ x = cc in subst P same h
always_ok (Err why) P x h e = absurd cc

-- ---- each line of a success

pub bind_ok : {A B : Type 0} (m : Maybe A) (rest : A → Maybe B) (y : B) → (m >>= rest) ≡ Ok y → (x : A) × (m ≡ Ok x) × (rest x ≡ Ok y)
bind_ok (Ok x) rest y h = (x, refl, h)
bind_ok (Err why) rest y h = absurd cc

pub unless_ok : {A : Type 0} (t : Bool) (why : Refusal) (rest : Maybe A) (y : A) → unless t why rest ≡ Ok y → (t ≡ true) × (rest ≡ Ok y)
unless_ok true why rest y h = (refl, h)
unless_ok false why rest y h = absurd cc

pub need_ok : {A : Type 0} (o : Option A) (why : Refusal) (x : A) → need o why ≡ Ok x → o ≡ Some x
need_ok None why x h = absurd cc
need_ok (Some y) why x h = let e : y ≡ x = cc in ap Some e
