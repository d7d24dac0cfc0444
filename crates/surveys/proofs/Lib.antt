mod SurveyLaws
