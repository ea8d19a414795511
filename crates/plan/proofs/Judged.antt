-- The verdict on a station refuses what breaks a rule, and nothing else. Assumes nothing.
use Rattle.std.proofs.Common.{◌≡◌, ℕ, ◌<◌, ◌≤◌, Bool, true, false, cond, not, ◌||◌, List, [], ◌∷◌, ◌++◌, length, is_some, None, nat_le, sym, refl, ap, ◌∙◌, subst, arith}
use Rattle.std.proofs.lemmas.Bool.{not-false, or_parts, or_from, leb-false, lt-leb, not_from_true}
use Rattle.std.proofs.lemmas.List.{length_push}
use Rattle.std.proofs.lemmas.List.Folds.{list_any-append}
use Rattle.plan.specs.declared.stations.PlannedStation.{PlannedStation}
use Rattle.std.specs.List.{list_any}
use Rattle.plan.specs.Limits.{max_stations, window_in_range, mailbox_in_range}
use Rattle.plan.specs.Windows.{image_bits, any_leaves, any_meet, pair_meets}
use Rattle.plan.specs.Stations.{windows, all_windows, stations_meet}
use Rattle.plan.specs.Verdict.{field_out_of_range, any_out_of_range, verdict}
use Rattle.plan.specs.declared.plans.Plan.{Plan}
use Rattle.plan.specs.Building.{image_bytes, stations_of}
use Rattle.plan.specs.Meaning.{Sound}
use Rattle.plan.proofs.Options.{none_from, is_some-option_or, is_some-then_some, is_some-option_map, is_some-position_from}
use Rattle.plan.proofs.Exclusive.{pair_append, windows-push, met_windows, exclusive, none_leaves, none_share}

-- what the plan keeps, said of its stations
pub record Kept (bytes : ℕ) (ss : List PlannedStation) : Type 0 where
  pub few : length ss ≤ max_stations
  pub fields : any_out_of_range ss ≡ false
  pub inside : any_leaves (image_bits bytes) (all_windows ss) ≡ false
  pub apart : pair_meets (all_windows ss) ≡ false

pub kept : (p : Plan) → Kept (image_bytes p) (stations_of p)
kept p = record { few = p.few; fields = p.fields; inside = p.inside; apart = p.apart }

module _ (bytes : ℕ) (ss : List PlannedStation) (s : PlannedStation) where
  -- the rules that can forbid a station, in turn
  forbids : is_some (verdict bytes ss s) ≡ (nat_le max_stations (length ss) || (is_some (field_out_of_range s) || (any_leaves (image_bits bytes) (windows s) || (list_any (λ t. stations_meet t s) ss || pair_meets (windows s)))))
  forbids = simp (is_some-option_or, is_some-then_some, is_some-option_map, is_some-position_from)

  out_of_range : is_some (field_out_of_range s) ≡ (not (window_in_range s.outputs) || (not (window_in_range s.inputs) || not (mailbox_in_range s.mailbox)))
  out_of_range = simp (is_some-option_or, is_some-then_some)

  -- each part of a verdict that passes a station
  pub record Passed : Type 0 where
    pub room : length ss < max_stations
    pub fields : is_some (field_out_of_range s) ≡ false
    pub inside : any_leaves (image_bits bytes) (windows s) ≡ false
    pub met : any_meet (all_windows ss) (windows s) ≡ false
    pub own : pair_meets (windows s) ≡ false

  parts : verdict bytes ss s ≡ None → Passed
  parts e =
      let a = or_parts (nat_le max_stations (length ss)) _ (sym forbids ∙ ap is_some e) in
      let b = or_parts (is_some (field_out_of_range s)) _ a.1 in
      let c = or_parts (any_leaves (image_bits bytes) (windows s)) _ b.1 in
      let d = or_parts (list_any (λ t. stations_meet t s) ss) _ c.1 in
      record {
        room = leb-false max_stations (length ss) a.0;
        fields = b.0;
        inside = c.0;
        met = sym (met_windows ss s) ∙ d.0;
        own = d.1;
      }

  -- a station that the verdict passes keeps the plan as it has to be
  pub passed : Kept bytes ss → verdict bytes ss s ≡ None → Kept bytes (ss ++ s ∷ [])
  passed kept e =
      let p : Passed = parts e in
      record {
        few = omega (arith, length_push ss s);
        fields = list_any-append (λ t. is_some (field_out_of_range t)) ss (s ∷ []) ∙ or_from _ _ kept.fields (or_from _ _ p.fields refl);
        inside = ap (any_leaves (image_bits bytes)) (windows-push ss s) ∙ list_any-append _ (all_windows ss) (windows s) ∙ or_from _ _ kept.inside p.inside;
        apart = ap pair_meets (windows-push ss s) ∙ pair_append (all_windows ss) (windows s) ∙ or_from _ _ kept.apart (or_from _ _ p.met p.own);
      }

  -- a station that the verdict passes is sound
  pub sound : Kept bytes ss → verdict bytes ss s ≡ None → Sound bytes ss s
  sound kept e =
      let p : Passed = parts e in
      let after = passed kept e in
      let f = or_parts (not (window_in_range s.outputs)) _ (sym out_of_range ∙ p.fields) in
      let g = or_parts (not (window_in_range s.inputs)) _ f.1 in
      record {
        room = p.room;
        outputs = not-false _ f.0;
        inputs = not-false _ g.0;
        mailbox = not-false _ g.1;
        exclusive = exclusive bytes (all_windows (ss ++ s ∷ [])) after.inside after.apart;
      }

  -- the verdict passes every sound station
  pub complete : Sound bytes ss s → verdict bytes ss s ≡ None
  complete h =
      let ws = all_windows (ss ++ s ∷ []) in
      let leaves = or_parts (any_leaves (image_bits bytes) (all_windows ss)) _ (sym (ap (any_leaves (image_bits bytes)) (windows-push ss s) ∙ list_any-append _ (all_windows ss) (windows s)) ∙ none_leaves bytes ws h.exclusive) in
      let shares = or_parts (pair_meets (all_windows ss)) _ (sym (ap pair_meets (windows-push ss s) ∙ pair_append (all_windows ss) (windows s)) ∙ none_share bytes ws h.exclusive) in
      let own = or_parts (any_meet (all_windows ss) (windows s)) _ shares.1 in
      let fields = out_of_range ∙ or_from _ _ (not_from_true _ h.outputs) (or_from _ _ (not_from_true _ h.inputs) (not_from_true _ h.mailbox)) in
      none_from _ (forbids ∙ or_from _ _ (lt-leb max_stations (length ss) h.room) (or_from _ _ fields (or_from _ _ leaves.1 (or_from _ _ (met_windows ss s ∙ own.0) own.1))))

  -- so does what a push leaves, whether or not there was memory
  pub pushed : (after : List PlannedStation) (b : Bool) → Kept bytes ss → verdict bytes ss s ≡ None → after ≡ cond b (ss ++ s ∷ []) ss → Kept bytes after
  pushed after true kept e is = subst (Kept bytes) (sym is) (passed kept e)
  pushed after false kept e is = subst (Kept bytes) (sym is) kept
