pub mod JudgeViews
