mod ChoiceLaws
