-- Document 01, transient: the outcome of a transient run, "The device starts empty."; document 02, L1: in slices
-- laid out for a capacity, and of an append; L3: with the count of its products, in a session; L13: at a desk; L5: of either form.
use Rattle.refusal.specs.declared.Refusal.{Refusal}
use Rattle.std.specs.Prelude.{Result, Ok, Err, ◌+◌, ◌&&◌, ◌∷◌}
use Rattle.lists.specs.Prelude.{ℕ, suc, Bool, true, false, List, [], eqb, length, get_or, set, Float}
use Rattle.refusal.specs.Verdict.{Verdict, ◌then◌, zeroed, afterwards}
use Rattle.refusal.specs.Checks.{finite_work, counter_holds, desk_known}
use Rattle.grid.specs.Calls.{grid_checks}
use Rattle.two_time.specs.declared.capacity.Shape.{Shape}
use Rattle.two_time.specs.declared.sums.Sums.TheVariants.{LesserAdvanced}
use Rattle.two_time.specs.Layout.{read_as, length_of}
use Rattle.two_time.specs.New.{cleared_new}
use Rattle.two_time.specs.Sums.{new_numbers, new_finite}
use Rattle.two_time.specs.Start.{Start, new_lesser_numbers, new_lesser_finite}
use Rattle.two_time.specs.Calls.{all_long, point_operands}
use Rattle.dyson.specs.Calls.{support_checks, new_kernel, new_green, solved_new_finite}
use Rattle.transient_run.specs.declared.Session.{Session}
use Rattle.transient_run.specs.Products.{formed}
use Rattle.transient_run.specs.Form.{Form, form_sizes, form_entries, start_of, start_products}

-- What a call is given: its form, its session and its desk, how many points it is told, the capacity, "Operands: free, retarded self-energy, Σ^<", and what
-- its outputs and scratch hold before
pub record Run : Type 0 where
  pub form : Form
  pub session : Session
  pub desk : ℕ
  pub points : ℕ
  pub capacity : ℕ
  pub orbitals : ℕ
  pub tolerance : Float
  pub times : List Float
  pub free : List Float
  pub self_energy : List Float
  pub lesser_self_energy : List Float
  pub retarded : List Float
  pub lesser : List Float
  pub kernel : List Float
  pub lesser_advanced : List Float

-- "Keep eight counters, one for each desk numbered 0 to 7"
abbrev pub counter_of : Session → ℕ → ℕ
counter_of session desk = get_or session.products desk 0

-- the run of a call
abbrev pub run_of : Form → Session → ℕ → Shape → Float → List Float → List Float → List Float → List Float → List Float → List Float → List Float → List Float → Run
run_of form session desk shape tolerance times free self_energy lesser_self_energy retarded lesser kernel lesser_advanced =
    record {
      form = form;
      session = session;
      desk = desk;
      points = shape.points;
      capacity = shape.capacity;
      orbitals = shape.orbitals;
      tolerance = tolerance;
      times = times;
      free = free;
      self_energy = self_energy;
      lesser_self_energy = lesser_self_energy;
      retarded = retarded;
      lesser = lesser;
      kernel = kernel;
      lesser_advanced = lesser_advanced;
    }

-- the answer, and what the outputs G^R and G^< and the scratch K and X hold afterwards
pub record Outcome : Type 0 where
  pub answer : Result ℕ Refusal
  pub retarded : List Float
  pub lesser : List Float
  pub kernel : List Float
  pub lesser_advanced : List Float

-- "An accepted transient run carries the count it formed"
unfoldable pub solved : Verdict → ℕ → Result ℕ Refusal
solved (Ok tt) count = Ok count
solved (Err r) count = Err r

-- accepted, with whatever count
unfoldable pub is_accepted : Result ℕ Refusal → Bool
is_accepted (Ok count) = true
is_accepted (Err r) = false

-- the refusal's number of a run's answer; 0 where it is accepted
unfoldable pub solved_number : Result ℕ Refusal → ℕ
solved_number (Ok count) = 0
solved_number (Err r) = r.number

-- "a session adds it to one 64-bit counter ... A refused run adds nothing"; of L13: "A run or append names its desk; no other desk's counter changes"
unfoldable pub booked : Session → ℕ → Result ℕ Refusal → Session
booked session desk (Ok count) = record { products = set session.products desk (counter_of session desk + count) }
booked session desk (Err r) = session

-- A call that works out the places whose larger index is at least `old` and below `points`. Document 02, L1: "Old entries of K, G^R, X and G^< are read
-- as the buffers hold them, whatever that is, and stay": each of the four is made of what stands in the slices before it.
module _ (old points : ℕ) (r : Run) where
  abbrev pub kernel_made : List Float
  kernel_made = new_kernel r.capacity r.orbitals old points r.times r.free r.self_energy r.retarded r.kernel

  abbrev pub retarded_made : List Float
  retarded_made = new_green r.capacity r.orbitals old points r.times r.free r.self_energy r.retarded r.kernel

  abbrev pub lesser_advanced_made : List Float
  lesser_advanced_made = new_numbers LesserAdvanced r.capacity r.orbitals old points r.times r.lesser_self_energy retarded_made r.lesser_advanced

  -- what G^< starts from
  abbrev pub lesser_start : Start
  lesser_start = start_of r.form r.capacity r.orbitals retarded_made

  abbrev pub lesser_made : List Float
  lesser_made = new_lesser_numbers lesser_start r.capacity r.orbitals old points r.times retarded_made lesser_advanced_made r.lesser

  -- every block made for the four is finite
  unfoldable pub made_finite : Bool
  made_finite =
      solved_new_finite r.capacity r.orbitals old points r.times r.free r.self_energy r.retarded r.kernel
      && (new_finite LesserAdvanced r.capacity r.orbitals old points r.times r.lesser_self_energy retarded_made
      && new_lesser_finite lesser_start r.capacity r.orbitals old points r.times retarded_made lesser_advanced_made)

  -- checks 22, 1, 2, 3 and 16; "Lines 4 to 9 are asked over all points": 4 to 7, then as Dyson asks: 8, 9 for free, 9 for the retarded self-energy; then 17
  unfoldable pub checks_of : Verdict
  checks_of =
      (desk_known r.desk
      then form_sizes r.form r.capacity points r.orbitals (eqb (length r.times) r.capacity
      && all_long (length_of r.capacity r.orbitals) (r.free ∷ r.self_energy ∷ r.lesser_self_energy ∷ r.retarded ∷ r.lesser ∷ r.kernel ∷ r.lesser_advanced ∷ [])))
      then grid_checks points r.times then (point_operands r.capacity points r.orbitals 0 (r.free ∷ r.self_energy ∷ r.lesser_self_energy ∷ []) then form_entries r.form)
      then support_checks points r.orbitals r.tolerance (read_as r.capacity r.orbitals r.free) (read_as r.capacity r.orbitals r.self_energy)
      then counter_holds (counter_of r.session r.desk) (formed (start_products r.form) old points)

  -- and 10
  unfoldable pub verdict_of : Verdict
  verdict_of = checks_of then finite_work made_finite

  -- the answer, and what each slice holds afterwards, where 10 leaves it `cleared`
  unfoldable pub worked : (List Float → List Float) → Outcome
  worked cleared =
      record {
        answer = solved verdict_of (formed (start_products r.form) old points);
        retarded = afterwards cleared verdict_of retarded_made r.retarded;
        lesser = afterwards cleared verdict_of lesser_made r.lesser;
        kernel = afterwards cleared verdict_of kernel_made r.kernel;
        lesser_advanced = afterwards cleared verdict_of lesser_advanced_made r.lesser_advanced;
      }

-- `transient_run`: all places of the points. "After 10 every output and scratch slice holds +0 throughout", room included.
unfoldable pub transient_run : Run → Outcome
transient_run r = worked 0 r.points r zeroed

-- `append_point`: one point more than it is told. "On an append's 10 the new row and column hold +0 and the rest is untouched"
unfoldable pub append_point : Run → Outcome
append_point r = worked r.points (suc r.points) r (cleared_new r.capacity r.orbitals r.points (suc r.points))
