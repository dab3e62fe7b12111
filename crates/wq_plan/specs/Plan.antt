-- How large a plan is.
use Rattle.std.specs.Prelude.{◌≡◌, ℕ, ◌+◌, ◌*◌, ◌≤◌}
use Rattle.wq_words.specs.declared.layout.Layout.{Layout}
use Rattle.wq_words.specs.Limits.{most_text_items}

-- the most queues, threads that serve them, and senders
abbrev pub most_plan_queues : ℕ
most_plan_queues = 8

abbrev pub most_plan_workers : ℕ
most_plan_workers = 8

abbrev pub most_plan_senders : ℕ
most_plan_senders = 32

-- so many queues and threads that serve them, and so many senders, with so many items of their own each
pub record AreInPlanLimits (queues workers senders own : ℕ) : Type 0 where
  pub some_queue : 1 ≤ queues
  pub few_queues : queues ≤ most_plan_queues
  pub some_worker : 1 ≤ workers
  pub few_workers : workers ≤ most_plan_workers
  pub some_sender : 1 ≤ senders
  pub few_senders : senders ≤ most_plan_senders
  pub some_item : 1 ≤ own
  pub few_items : senders * own ≤ most_text_items

-- The size of each of a plan's queues: the senders' own items, one barrier, and two senders more, the worker's and the program's.
pub record IsLayoutOf (senders own : ℕ) (layout : Layout) : Type 0 where
  pub items_is : layout.items ≡ senders * own
  pub barriers_is : layout.barriers ≡ 1
  pub senders_is : layout.senders ≡ senders + 2
