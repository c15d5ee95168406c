-- Whatever is answered, the premise is true in every model.
use Rattle.expansion.proofs.InstanceLaws.{instance_true}
use Rattle.expansion.proofs.lay_instance.Goals as goal

pub returns-then-not-is_named-clause-holds : goal.returns-then-not-is_named-clause-holds
returns-then-not-is_named-clause-holds c = instance_true _ _ _

pub returns-then-has_true_universal-clause-holds : goal.returns-then-has_true_universal-clause-holds
returns-then-has_true_universal-clause-holds c = instance_true _ _ _

pub returns-then-count-row-clause-holds : goal.returns-then-count-row-clause-holds
returns-then-count-row-clause-holds c = instance_true _ _ _

pub returns-clause-holds : goal.returns-clause-holds
returns-clause-holds c = instance_true _ _ _
