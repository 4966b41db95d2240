-- A list of calls, one call more. Assumes nothing.
use Rattle.std.proofs.Common.{◌≡◌, ℕ, ◌+◌, ◌<◌, ◌≤◌, List, [], ◌∷◌, ◌++◌, map, length, get_or, take, sym, refl, ap, ◌∙◌, subst, ap₂, arith}
use lib.ListN.{length-map}
use Rattle.std.proofs.lemmas.List.{take_more, take_all, map_push, length_push, length-take-le}
use Rattle.store.specs.declared.Entry.{Entry}
use Rattle.calls.specs.State.{State, just_made}
use Rattle.calls.specs.Words.{Call, Answer}
use Rattle.calls.specs.Calls.{answer, after}
use Rattle.calls.specs.Histories.{Event, event, Reached, made, history, final}
use Rattle.calls.proofs.Steps.{run_reaches}
use Rattle.book.specs.Runs.{said, events}

pub events_push : (cs : List Call) (answers : List Answer) (c : Call) (a : Answer) (h : List Event) → length cs ≡ length answers → events (cs ++ c ∷ []) (answers ++ a ∷ []) h ≡ said c a ∷ events cs answers h
events_push [] [] c a h e = refl
events_push [] (p ∷ answers) c a h e = absurd (omega arith)
events_push (d ∷ cs) [] c a h e = absurd (omega arith)
events_push (d ∷ cs) (p ∷ answers) c a h e = events_push cs answers c a (said d p ∷ h) (omega arith)

history_push : (b : State) (cs : List Call) (c : Call) (h : List Event) → history b (cs ++ c ∷ []) h ≡ event (final b cs) c ∷ history b cs h
history_push b [] c h = refl
history_push b (d ∷ cs) c h = history_push (after b d) cs c (event b d ∷ h)

final_push : (b : State) (cs : List Call) (c : Call) → final b (cs ++ c ∷ []) ≡ after (final b cs) c
final_push b [] c = refl
final_push b (d ∷ cs) c = final_push (after b d) cs c

-- from b₀ the calls before the place i have been made, with these answers, and led to b
pub record Running {X Y : Type 0} (cv : X → Call) (av : Y → Answer) (calls : List X) (b₀ b : State) (i : ℕ) (answers : List Y) : Type 0 where
  pub past : events (map cv (take i calls)) (map av answers) [] ≡ history b₀ (map cv (take i calls)) []
  pub led : b ≡ final b₀ (map cv (take i calls))
  pub long : length answers ≡ i

module _ {X Y : Type 0} (cv : X → Call) (av : Y → Answer) (calls : List X) (b₀ : State) where
  pub run_start : (answers : List Y) → answers ≡ [] → Running cv av calls b₀ b₀ 0 answers
  run_start answers e = record { past = refl; led = refl; long = ap length e }

  pub run_push : (b later : State) (i : ℕ) (x : X) (answers : List Y) (y : Y) (more : List Y) → i < length calls → x ≡ get_or calls i x → av y ≡ answer b (cv x) → later ≡ after b (cv x) → more ≡ answers ++ y ∷ []
      → Running cv av calls b₀ b i answers → Running cv av calls b₀ later (i + 1) more
  run_push b later i x answers y more l is told left e r =
      let before = map cv (take i calls) in
      let next : map cv (take (i + 1) calls) ≡ before ++ cv x ∷ [] = ap (map cv) (take_more calls i x l ∙ ap (λ z. take i calls ++ z ∷ []) (sym is)) ∙ map_push cv (take i calls) x in
      let longer : map av more ≡ map av answers ++ av y ∷ [] = ap (map av) e ∙ map_push av answers y in
      let same : length before ≡ length (map av answers) = omega (arith, r.long, length-map (take i calls) cv, length-map answers av, length-take-le i calls (omega arith)) in
      record {
        past = rw (next, longer) (events_push before (map av answers) (cv x) (av y) [] same ∙ ap₂ (λ a h. said (cv x) a ∷ h) (told ∙ ap (λ s. answer s (cv x)) r.led) r.past ∙ sym (history_push b₀ before (cv x) []));
        led = rw next (left ∙ ap (λ s. after s (cv x)) r.led ∙ sym (final_push b₀ before (cv x)));
        long = ap length e ∙ length_push answers y ∙ ap (λ k. k + 1) r.long;
      }

  -- where all have been made
  pub run_whole : (b : State) (i : ℕ) (answers : List Y) → length calls ≤ i → Running cv av calls b₀ b i answers → (events (map cv calls) (map av answers) [] ≡ history b₀ (map cv calls) []) × (b ≡ final b₀ (map cv calls))
  run_whole b i answers l r = subst (λ cs. (events (map cv cs) (map av answers) [] ≡ history b₀ (map cv cs) []) × (b ≡ final b₀ (map cv cs))) (take_all i calls l) (r.past, r.led)

pub reached_run : (first : List Entry) (cs : List Call) (h : List Event) (b : State) → h ≡ history (just_made first) cs [] → b ≡ final (just_made first) cs → Reached first h b
reached_run first cs h b told left = rw (told, left) (run_reaches first cs [] (just_made first) made)
