-- Frames that are the same on their names have the same cocones, and the same names for what is glued.
use Rattle.std.proofs.Common.{◌≡◌, ◌∙◌, ◌==◌, ◌<◌, ◌+◌, ℕ, Bool, not, nat_lt, cond, filter, length, slice_index, List, None, Contains, refl, sym, ap, subst}
use Rattle.std.specs.List.{list_any}
use Rattle.rw_schema.specs.Signature.{Signature, IsCategory}
use Rattle.rw_spec.specs.Cocone.{Frame, IsCocone, IsMediating, IsInitialCocone}
use Rattle.rw_spec.specs.Instance.{Instance}
use Rattle.rw_spec.specs.Natural.{Map}
use Rattle.rw_spec.specs.Same.{AreSame}
use Rattle.rw_spec.proofs.Sequences.{contained_in_filter, filter_same}
use Rattle.rw_complement.specs.Named.{IsNamed, is_new, new_parts}
use Rattle.rw_complement.proofs.Named.{same_back, same_homomorphism}
use Rattle.rw_partial.specs.SubInstance.{AreSameElements, Elements, restricted}
use Rattle.rw_partial.specs.SinglePushout.{Applied, IsApplied, frame_of_pair}

-- the frames have the same names, and at these the same values and cells, and the same maps
pub record AreSameFrames (C : Signature) (F F' : Frame) : Type 0 where
  pub apex_names : (object : ℕ) → object < C.objects → F.apex.names object ≡ F'.apex.names object
  pub left_names : (object : ℕ) → object < C.objects → F.left.names object ≡ F'.left.names object
  pub right_names : (object : ℕ) → object < C.objects → F.right.names object ≡ F'.right.names object
  pub left : AreSame C F.left F'.left
  pub right : AreSame C F.right F'.right
  pub to_left : F.to_left ≡ F'.to_left
  pub to_right : F.to_right ≡ F'.to_right

-- being the same has no direction
pub frames_back : (C : Signature) → IsCategory C → (F F' : Frame) → AreSameFrames C F F' → AreSameFrames C F' F
frames_back C category F F' same = record {
  apex_names = λ object known. sym (same.apex_names object known);
  left_names = λ object known. sym (same.left_names object known);
  right_names = λ object known. sym (same.right_names object known);
  left = same_back C category F.left F'.left same.left;
  right = same_back C category F.right F'.right same.right;
  to_left = sym same.to_left;
  to_right = sym same.to_right;
}

-- a cocone over one frame is one over the other
pub cocone_of_same : (C : Signature) → IsCategory C → (F F' : Frame) → AreSameFrames C F F' → (T : Instance) (d s : Map) → IsCocone C F' T d s → IsCocone C F T d s
cocone_of_same C category F F' same T d s cocone = record {
  instance = cocone.instance;
  from_left = same_homomorphism C category F.left F'.left T d same.left cocone.from_left;
  from_right = same_homomorphism C category F.right F'.right T s same.right cocone.from_right;
  agrees = λ object z known has.
      ap (λ (k : Map). d object (k object z)) same.to_left
      ∙ cocone.agrees object z known (subst (λ (names : List ℕ). Contains names z) (same.apex_names object known) has)
      ∙ ap (λ (q : Map). s object (q object z)) (sym same.to_right);
}

-- what mediates over one frame does over the other
mediating_of_same : (C : Signature) (F F' : Frame) → AreSameFrames C F F' → (H : Instance) (i j : Map) (T : Instance) (d s u : Map)
    → IsMediating C F' H i j T d s u → IsMediating C F H i j T d s u
mediating_of_same C F F' same H i j T d s u mediating = record {
  homomorphism = mediating.homomorphism;
  from_left = λ object x known has. mediating.from_left object x known (subst (λ (names : List ℕ). Contains names x) (same.left_names object known) has);
  from_right = λ object y known has. mediating.from_right object y known (subst (λ (names : List ℕ). Contains names y) (same.right_names object known) has);
}

-- an initial cocone over one frame is one over the other
pub initial_over_same : (C : Signature) → IsCategory C → (F F' : Frame) → AreSameFrames C F F' → (H : Instance) (i j : Map)
    → IsInitialCocone C F' H i j → IsInitialCocone C F H i j
initial_over_same C category F F' same H i j initial =
    let back : AreSameFrames C F' F = frames_back C category F F' same in
    record {
      cocone = cocone_of_same C category F F' same H i j initial.cocone;
      mediating = λ T d s cocone.
          let found = initial.mediating T d s (cocone_of_same C category F' F back T d s cocone) in
          (found.0, mediating_of_same C F F' same H i j T d s found.0 found.1);
      unique = λ T d s u v cocone first second.
          initial.unique T d s u v (cocone_of_same C category F' F back T d s cocone)
          (mediating_of_same C F' F back H i j T d s u first) (mediating_of_same C F' F back H i j T d s v second);
    }

-- whether a right part is new depends on the names of the apex
new_same : (C : Signature) (F F' : Frame) → AreSameFrames C F F' → (object y : ℕ) → object < C.objects → is_new F object y ≡ is_new F' object y
new_same C F F' same object y known =
    ap (λ (names : List ℕ). not (list_any (λ z. F.to_right object z == y) names)) (same.apex_names object known)
    ∙ ap (λ (q : Map). not (list_any (λ z. q object z == y) (F'.apex.names object))) same.to_right

-- new parts are the same
pub new_parts_same : (C : Signature) (F F' : Frame) → AreSameFrames C F F' → (object : ℕ) → object < C.objects → new_parts F object ≡ new_parts F' object
new_parts_same C F F' same object known =
    ap (filter (is_new F object)) (same.right_names object known)
    ∙ filter_same (is_new F object) (is_new F' object) (F'.right.names object) (λ y has. new_same C F F' same object y known)

-- what is named as a step names it over one frame is so over the other
pub named_over_same : (C : Signature) (F F' : Frame) → AreSameFrames C F F' → (next : List ℕ) (d s : Map) → IsNamed C F' next d s → IsNamed C F next d s
named_over_same C F F' same next d s named = record {
  kept = λ object x known has.
      let own = named.kept object x known (subst (λ (names : List ℕ). Contains names x) (same.left_names object known) has) in
      (subst (λ (names : List ℕ). Contains names (d object x)) (sym (same.left_names object known)) own.0, own.1, own.2);
  fresh = λ object y known has new.
      named.fresh object y known (subst (λ (names : List ℕ). Contains names y) (same.right_names object known) has) (sym (new_same C F F' same object y known) ∙ new)
      ∙ ap (λ (parts : List ℕ). slice_index next object + length (filter (λ other. nat_lt other y) parts)) (sym (new_parts_same C F F' same object known));
}

-- of sets with the same elements the instances are the same
restricted_same : (C : Signature) → IsCategory C → (X : Instance) (E other : Elements) → AreSameElements C X E other → AreSame C (restricted X E) (restricted X other)
restricted_same C category X E other same = record {
  names = λ object x known.
      let one : (restricted X E).names object ≡ (restricted X other).names object =
      filter_same (E.part object) (other.part object) (X.names object) (λ x has. same.parts object x known has) in
      (subst (λ (names : List ℕ). Contains names x) one, subst (λ (names : List ℕ). Contains names x) (sym one));
  values = λ a ends x there has. refl;
  cells = λ c ends x there has.
      ap (λ (here : Bool). cond here (X.cell c x) None) (same.cells c ends x there (contained_in_filter (E.part ends.object.0) (X.names ends.object.0) x has).0);
}

-- pairs with the same elements have the same frame
pub pairs_frame : (C : Signature) → IsCategory C → (S : Applied) → IsApplied C S → (D R E Q : Elements)
    → AreSameElements C S.host D E × AreSameElements C S.right R Q → AreSameFrames C (frame_of_pair S D R) (frame_of_pair S E Q)
pairs_frame C category S applied D R E Q same = record {
  apex_names = λ object known.
      filter_same (λ z. R.part object (S.r object z)) (λ z. Q.part object (S.r object z)) (S.keep.names object)
      (λ z has. same.1.parts object (S.r object z) known (applied.r.parts object z known has));
  left_names = λ object known. filter_same (D.part object) (E.part object) (S.host.names object) (λ x has. same.0.parts object x known has);
  right_names = λ object known. filter_same (R.part object) (Q.part object) (S.right.names object) (λ y has. same.1.parts object y known has);
  left = restricted_same C category S.host D E same.0;
  right = restricted_same C category S.right R Q same.1;
  to_left = refl;
  to_right = refl;
}
