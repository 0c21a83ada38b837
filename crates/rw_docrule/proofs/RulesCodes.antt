-- A reading of the list of rules tells the first fault.
use Rattle.std.proofs.Common.{◌≡◌, ◌∙◌, Bool, true, false, is_none, ℕ, Option, Some, None, option_and_then, option_map, codes, Ok, List, [], length, map, if◌then◌else◌, sym, ap, subst, zero-add}
use Rattle.serde_json.specs.Data.{Data}
use Rattle.serde_json.specs.Find.{as_str, get}
use Rattle.rw_schema.specs.declared.section.Section.TheVariants as sections
use Rattle.rw_schema.specs.Presentation.{Presentation, signature_of}
use Rattle.rw_terms.specs.OpTables.{OpEntry}
use Rattle.rw_rule.specs.Sets.{value_missing}
use Rattle.rw_doc.specs.Chain.{each_after, some_or}
use Rattle.rw_doc.specs.Json.{has_only}
use Rattle.rw_doc.specs.Pieces.{fault_in}
use Rattle.rw_doc.proofs.Chains.{behind_long, chain, there}
use Rattle.rw_doc.proofs.Checked.{passed}
use Rattle.rw_docpattern.specs.Objects.{texts_or_none}
use Rattle.rw_docpattern.specs.PieceCodes.{IsNameOf, TellsFirstPiece, name_written}
use Rattle.rw_docpattern.proofs.NamedCodes.{is_read, there_parts, was_written}
use Rattle.rw_docpattern.proofs.PieceCodes.{any_list_tells, items_tell}
use Rattle.rw_docrule.specs.Heads.{HeadForm, RuleMembers, conditions_or_none, head_form, read_rule_head, rule_keys, rule_members, rule_members_in}
use Rattle.rw_docrule.specs.RuleCodes.{FirstRulesFault, RuleBehindHas, RuleHas}
use Rattle.rw_docrule.specs.Rules.{RuleRead, read_body, read_rule, read_rule_where, rule_piece, rule_with}
use Rattle.rw_docrule.proofs.RuleCodes.{head_is, taken_tells}

-- something is there only where a test lets it pass
where_passed : {A : Type 0} (test : Bool) (found : Option A) (x : A) → (if test then found else None) ≡ Some x → found ≡ Some x
where_passed true found x is = is
where_passed false found x is = cc

-- what is made of something that is there
mapped_from : {A B : Type 0} (f : A → B) (found : Option A) (y : B) → option_map f found ≡ Some y → (x : A) × (f x ≡ y)
mapped_from f (Some x) y is = let same : f x ≡ y = cc in (x, same)
mapped_from f None y is = cc

-- the name of a rule is among its members
members_name : (value : Data) (members : RuleMembers) → rule_members value ≡ Some members → get (codes "name") value ≡ Some members.name
members_name value members is =
    let found : rule_members_in value ≡ Some members = where_passed (has_only rule_keys value) (rule_members_in value) members is in
    let name = there_parts (get (codes "name") value) _ members found in
    let kind = there_parts (get (codes "kind") value) _ members name.is_second in
    let left = there_parts (get (codes "left") value) _ members kind.is_second in
    let keep = there_parts (get (codes "keep") value) _ members left.is_second in
    let right = there_parts (get (codes "right") value) _ members keep.is_second in
    let l = there_parts (get (codes "l") value) _ members right.is_second in
    let r = mapped_from _ (get (codes "r") value) members l.is_second in
    name.is_first ∙ ap (λ (members : RuleMembers). Some members.name) r.1

-- the name of a rule is a text
form_name : (members : RuleMembers) (form : HeadForm) → head_form members ≡ Some form → as_str members.name ≡ Some form.name
form_name members form is =
    let name = there_parts (as_str members.name) _ form is in
    let kind = there_parts (option_and_then _ (as_str members.kind)) _ form name.is_second in
    let monic = there_parts (texts_or_none members.monic) _ form kind.is_second in
    let conditions = mapped_from _ (conditions_or_none members.conditions) form monic.is_second in
    name.is_first ∙ ap (λ (form : HeadForm). Some form.name) conditions.1

-- a rule that is read has the name that it is written with
rule_named : (schema : Presentation) (ops : List OpEntry) (taken : List (List ℕ)) (place : ℕ) (value : Data) (read : RuleRead)
    → read_rule_where schema ops taken place value ≡ Ok read → name_written value ≡ Some read.rule.name
rule_named schema ops taken place value =
    let P : RuleRead → Type 0 = λ (read : RuleRead). name_written value ≡ Some read.rule.name in
    chain P (some_or (fault_in (rule_piece place 0) 2) (rule_members value)) _
    (λ members are_members. chain P (read_rule_head schema.objects taken (rule_piece place 0) members) _
    (λ head is_head. chain P (read_body schema ops place head.kind members) _
    (λ body is_body. passed P (fault_in (rule_piece place 5) 14) (is_none (value_missing (signature_of schema) (rule_with head body))) _
    (λ given.
    let known = head_is schema.objects taken (rule_piece place 0) members head is_head in
    let found : rule_members value ≡ Some members = there (fault_in (rule_piece place 0) 2) (rule_members value) members are_members in
    rw (members_name value members found) (form_name members known.form known.is_form ∙ ap Some (sym known.same_name))))))

-- the name of a rule
abbrev name_of : RuleRead → List ℕ
name_of read = read.rule.name

-- a rule behind others
behind_tells : (schema : Presentation) (ops : List OpEntry) (done : List Data) (before : List RuleRead) (item : Data) → each_after (read_rule schema ops) [] done ≡ Ok before
    → TellsFirstPiece sections.Rules (length done) (RuleBehindHas schema ops done item) (read_rule schema ops before item)
behind_tells schema ops done before item read =
    let named : (before : List RuleRead) (item : Data) (read : RuleRead) → read_rule schema ops before item ≡ Ok read → name_written item ≡ Some (name_of read) =
    λ before item read. rule_named schema ops (map name_of before) (length before) item read in
    let long : length before ≡ length done = behind_long (read_rule schema ops) [] done before read ∙ zero-add (length done) in
    subst (λ (place : ℕ). TellsFirstPiece sections.Rules place (RuleHas schema ops (IsNameOf done) place item) (read_rule_where schema ops (map name_of before) (length before) item)) long
    (taken_tells schema ops (map name_of before) (IsNameOf done) (λ name. was_written name_of (read_rule schema ops) named done before name read)
    (λ name. is_read name_of (read_rule schema ops) named done before name read) (length before) item)

-- rules
pub rules_tell : FirstRulesFault
rules_tell schema ops value =
    any_list_tells sections.Rules 256 (read_rule schema ops) (RuleBehindHas schema ops)
    (items_tell sections.Rules (read_rule schema ops) (RuleBehindHas schema ops) (behind_tells schema ops)) value
